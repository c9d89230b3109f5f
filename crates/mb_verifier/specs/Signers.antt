-- Which key signed the statement of a chain, if no key is asked for. Is it one for which a verifier accepts the chain?
use Rattle.std.specs.Prelude.{◌≡◌, ℕ, ◌<◌, List, Some}
use Rattle.mb_model.specs.declared.entry.Entry.{Entry}
use Rattle.mb_model.specs.declared.entry.Statement.{Statement}
use Rattle.mb_model.specs.chains.Acceptance.{ChainRefusal, bad_statement, KeyEntry, key_of, IsStated, IsCurrent}
use Rattle.mb_verifier.specs.Checked.{IsBadStatement}

-- The key with this number signed the statement, and of the keys that the log makes none with a lower number did.
pub record IsSigner (log : List Entry) (statement : Statement) (n : ℕ) (made : KeyEntry) : Type 0 where
  pub named : key_of log n ≡ Some made
  pub signed : IsStated log n made.key statement
  pub lowest : (lower : ℕ) (other : KeyEntry) → lower < n → key_of log lower ≡ Some other
      → IsStated log lower other.key statement → ⊥

-- no key that the log makes signed the statement
abbrev pub HasNoSigner : List Entry → Statement → Type 0
HasNoSigner log statement =
    (n : ℕ) (made : KeyEntry) → key_of log n ≡ Some made → IsStated log n made.key statement → ⊥

-- The key with this number signed the statement, the lowest that did; the statement is of the log's last configuration,
-- and the key is alive.
pub record HasSigned (log : List Entry) (statement : Statement) (n : ℕ) : Type 0 where
  pub made : KeyEntry
  pub signer : IsSigner log statement n made
  pub current : IsCurrent log n made statement

-- Why a statement is refused if no key is asked for: no key signed it, or it is refused for the lowest that did.
pub data IsStatementRefused (log : List Entry) (statement : Statement) (why : ChainRefusal) : Type 0 where
  is_unsigned : why ≡ bad_statement → HasNoSigner log statement → IsStatementRefused log statement why
  is_refused_for : (n : ℕ) (made : KeyEntry) → IsSigner log statement n made
      → IsBadStatement log n made statement why → IsStatementRefused log statement why
