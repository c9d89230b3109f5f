-- What the command `history` does. Is a history told of each chain that its maker's and its device's keys signed, and
-- of no other?
use Rattle.std.specs.Prelude.{◌≡◌, ◌⊎◌, ℕ, List, Option, None, Some}
use Rattle.mb_format.specs.Format.{Spells}
use Rattle.mb_model.specs.declared.key.PublicKey.{PublicKey}
use Rattle.mb_model.specs.declared.entry.Chain.{Chain}
use Rattle.mb_model.specs.declared.entry.Entry.{Entry}
use Rattle.mb_model.specs.declared.entry.Statement.{Statement}
use Rattle.mb_model.specs.owners.Log.{entries_of}
use Rattle.mb_model.specs.records.ChainFormat.{chain_format}
use Rattle.mb_model.specs.chains.Acceptance.{ChainRefusal, AreGood}
use Rattle.mb_model.specs.chains.Lines.{text_of}
use Rattle.mb_model_commands.specs.Commands.{Command, read, find, print, refuse}
use Rattle.mb_model_commands.specs.Inputs.{root_input, chain_bytes_input}
use Rattle.mb_model_commands.specs.VerifyCommand.{chain_refusal_line}
use Rattle.mb_verifier.specs.Entries.{IsEntriesRefused}
use Rattle.mb_verifier.specs.Signers.{HasSigned, IsStatementRefused}
use Rattle.mb_tools_shown.specs.HistoryShown.{history_shown}

-- the names of the files
pub record HistoryNames : Type 0 where
  pub root : List ℕ
  pub chain : List ℕ

-- what is found of a chain, if no key is asked for
pub data Finding : Type 0 where
  -- it has a history: the chain, and the number of the key that signed its statement
  has_history : Chain → Option ℕ → Finding
  -- it is refused
  is_untold : ChainRefusal → Finding

-- the key with this number signed the statement; there is none if there is no statement
abbrev pub IsSignedByKey : List Entry → Option Statement → Option ℕ → Type 0
IsSignedByKey log None None = Unit {0}
IsSignedByKey log (Some statement) (Some signer) = HasSigned log statement signer
IsSignedByKey log None (Some signer) = ⊥
IsSignedByKey log (Some statement) None = ⊥

-- The bytes spell this chain, and its entries are good under the maker's key.
pub record IsGoodChain (maker : PublicKey) (bytes : List ℕ) (chain : Chain) : Type 0 where
  pub spelled : Spells chain_format bytes chain
  pub good : AreGood maker chain.entries

-- the chain is good, and its statement is refused
pub record HasBadStatement (maker : PublicKey) (bytes : List ℕ) (why : ChainRefusal) : Type 0 where
  pub chain : Chain
  pub good : IsGoodChain maker bytes chain
  pub statement : Statement
  pub stated : chain.statement ≡ Some statement
  pub refused : IsStatementRefused (entries_of chain.entries) statement why

-- What is found of these bytes under the maker's key. The form and the entries are refused as by `verify`, whichever
-- key that is asked for.
abbrev pub IsFinding : PublicKey → List ℕ → Finding → Type 0
IsFinding maker bytes (has_history chain signer) =
    IsGoodChain maker bytes chain × IsSignedByKey (entries_of chain.entries) chain.statement signer
IsFinding maker bytes (is_untold why) = IsEntriesRefused maker bytes why ⊎ HasBadStatement maker bytes why

-- the history is printed, or the chain is refused
abbrev pub tell_history : Finding → Command
tell_history (has_history chain signer) = print (text_of (history_shown chain signer))
tell_history (is_untold why) = refuse (chain_refusal_line why)

-- the maker's public key and the chain are read, and the chain's history is told
unfoldable pub history : HistoryNames → Command
history names =
    read (root_input names.root) (λ maker.
    read (chain_bytes_input names.chain) (λ bytes.
    find (IsFinding maker bytes) tell_history))
