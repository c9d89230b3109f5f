-- What the entries of a chain show of their device, and why they are refused, whatever the key. Is the reason one that
-- the chain's statement cannot give?
use Rattle.std.specs.Prelude.{◌≡◌, ℕ, List, map, Some}
use Rattle.mb_format.specs.Format.{Spells}
use Rattle.mb_model.specs.declared.key.PublicKey.{PublicKey}
use Rattle.mb_model.specs.declared.entry.Chain.{Chain}
use Rattle.mb_model.specs.owners.Log.{entries_of, figures_of, serial_of}
use Rattle.mb_model.specs.records.EntryFormat.{entry_hash}
use Rattle.mb_model.specs.records.ChainFormat.{chain_format}
use Rattle.mb_model.specs.chains.Acceptance.{ChainRefusal, bad_form, bad_signature, bad_order, breaks_rules}
use Rattle.mb_model.specs.chains.Acceptance.{key_unknown, AreGood}
use Rattle.mb_model.specs.chains.Acceptance.{bad_statement, wrong_number, key_ended, IsRefused}
use Rattle.mb_verifier.specs.declared.chain.Shown.{Shown}

-- ---- good entries

-- The bytes are a chain whose entries are good under the maker's key, and what is shown is theirs; of a statement only
-- the form counts.
pub record ChainShows (maker : PublicKey) (bytes : List ℕ) (shown : Shown) : Type 0 where
  pub chain : Chain
  pub spelled : Spells chain_format bytes chain
  pub good : AreGood maker chain.entries
  pub serial : serial_of (entries_of chain.entries) ≡ Some shown.serial
  pub figures : shown.figures ≡ figures_of (entries_of chain.entries)
  pub hashes : shown.hashes ≡ map entry_hash (entries_of chain.entries)

-- ---- entries that are refused

-- a reason that the form or an entry gives; the others are of a key or a statement
abbrev pub IsOfEntries : ChainRefusal → Type 0
IsOfEntries (bad_form offset) = Unit {0}
IsOfEntries (bad_signature i) = Unit {0}
IsOfEntries (bad_order i) = Unit {0}
IsOfEntries (breaks_rules i) = Unit {0}
IsOfEntries key_unknown = ⊥
IsOfEntries bad_statement = ⊥
IsOfEntries (wrong_number named last) = ⊥
IsOfEntries key_ended = ⊥

-- the bytes are refused for their form or an entry, whatever the key
pub record IsEntriesRefused (maker : PublicKey) (bytes : List ℕ) (why : ChainRefusal) : Type 0 where
  pub of_entries : IsOfEntries why
  pub refused : (n : ℕ) → IsRefused maker bytes n why
