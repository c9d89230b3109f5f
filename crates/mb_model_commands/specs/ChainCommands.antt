-- What the commands `chain` and `attach` do. Is what a device hands out accepted wherever its maker is trusted?
use Rattle.std.specs.Prelude.{◌≢◌, ℕ, List, ◌++◌, length, codes, Option, None, Some}
use Rattle.std.specs.Fmt.{decimal}
use Rattle.mb_format.specs.Format.{Spells}
use Rattle.mb_model.specs.declared.entry.Chain.{Chain}
use Rattle.mb_model.specs.declared.entry.Statement.{Statement}
use Rattle.mb_model.specs.declared.state.State.{State}
use Rattle.mb_model.specs.outside.Texts.{line_with_lf}
use Rattle.mb_model.specs.records.ChainFormat.{chain_format}
use Rattle.mb_model.specs.chains.Attach.{stated_chain}
use Rattle.mb_model.specs.chains.DeviceChains.{IsChainOf}
use Rattle.mb_model_commands.specs.declared.role.Role.TheVariants as role
use Rattle.mb_model_commands.specs.Commands.{Command, read, find, either_command, write, print, refuse}
use Rattle.mb_model_commands.specs.Inputs.{image_input, chain_input, statement_input}

-- the names of the files of `chain`
pub record ChainNames : Type 0 where
  pub image : List ℕ
  pub out : List ℕ

-- the names of the files of `attach`
pub record AttachNames : Type 0 where
  pub chain : List ℕ
  pub statement : List ℕ
  pub out : List ℕ

-- the line that reports how many entries a chain has
abbrev pub entries_text : ℕ → List ℕ
entries_text count = line_with_lf (codes "entries " ++ decimal count)

-- Writes bytes that spell the chain, and prints the number of its entries. The bytes spell this chain, and are not the
-- spelling of some chain: so no reader refuses their form.
unfoldable pub write_entries : List ℕ → Chain → Command
write_entries out chain = find (λ bytes. Spells chain_format bytes chain) (λ bytes.
    write (record { role = role.Out; name = out; bytes = bytes })
    (print (entries_text (length chain.entries))))

-- ---- chain

-- writes the chain of a live device; refuses a dead one, which has no log
abbrev pub chain_of : ChainNames → Option State → Command
chain_of names None = refuse (codes "zeroised")
chain_of names (Some state) = find (IsChainOf state) (write_entries names.out)

unfoldable pub chain : ChainNames → Command
chain names = read (image_input names.image) (λ image. chain_of names image.state)

-- ---- attach

-- Attaches the statement, unless the chain has one already. Nothing is verified, so that no key is needed. A statement
-- of a later configuration than the chain's last leaves the whole chain, and `verify` then says 26.
unfoldable pub attach_statement : AttachNames → Chain → Statement → Command
attach_statement names chain statement =
    either_command (chain.statement ≢ None) (refuse (codes "has statement"))
    (write_entries names.out (stated_chain chain.entries statement))

-- the chain and the statement are read, and the statement is attached
unfoldable pub attach : AttachNames → Command
attach names =
    read (chain_input names.chain) (λ chain.
    read (statement_input names.statement) (λ statement.
    attach_statement names chain statement))
