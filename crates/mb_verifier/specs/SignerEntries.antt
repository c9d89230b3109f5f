-- Entries that make keys, and what these signed. Is the entry of the key that signed a statement found?
use Rattle.std.specs.Prelude.{◌≡◌, ℕ, List, Some}
use Rattle.mb_model.specs.declared.entry.Entry.{Entry}
use Rattle.mb_model.specs.declared.entry.Statement.{Statement}
use Rattle.mb_model.specs.chains.Acceptance.{KeyEntry, key_in, IsStated}

-- the entry makes the key with this number, which signed the statement in the device with this log
pub record MakesSigner (log : List Entry) (statement : Statement) (entry : Entry) (n : ℕ) : Type 0 where
  pub made : KeyEntry
  pub named : key_in n entry ≡ Some made
  pub signed : IsStated log n made.key statement
