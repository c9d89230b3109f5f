-- What is wrong with an entry, and with a statement, by the log alone. Which check fails first?
use Rattle.std.specs.Prelude.{◌≡◌, ◌≢◌, ℕ, List, ◌∷◌, ◌++◌, false}
use Rattle.mb_model.specs.declared.key.PublicKey.{PublicKey}
use Rattle.mb_model.specs.declared.entry.Entry.{Entry}
use Rattle.mb_model.specs.declared.entry.SignedEntry.{SignedEntry}
use Rattle.mb_model.specs.declared.entry.Statement.{Statement}
use Rattle.mb_model.specs.declared.state.Figures.{Figures}
use Rattle.mb_model.specs.owners.Log.{figures_of, entries_of, number_of, Ruled}
use Rattle.mb_model.specs.chains.Acceptance.{ChainRefusal, bad_form, bad_signature, bad_order, breaks_rules}
use Rattle.mb_model.specs.chains.Acceptance.{key_unknown}
use Rattle.mb_model.specs.chains.Acceptance.{bad_statement, wrong_number, key_ended, IsCertified, IsInPlace, AreGood}
use Rattle.mb_model.specs.chains.Acceptance.{KeyEntry, is_alive, IsStated}

-- an entry after a log with these figures is refused for this, the first check that it fails
abbrev pub IsBadEntry : PublicKey → Figures → SignedEntry → ChainRefusal → Type 0
IsBadEntry maker before signed (bad_signature i) = (i ≡ before.length) × (IsCertified maker before signed → ⊥)
IsBadEntry maker before signed (bad_order i) =
    (i ≡ before.length) × IsCertified maker before signed × (IsInPlace before signed → ⊥)
IsBadEntry maker before signed (breaks_rules i) =
    (i ≡ before.length) × IsCertified maker before signed × IsInPlace before signed
    × (Ruled before signed.entry → ⊥)
IsBadEntry maker before signed (bad_form offset) = ⊥
IsBadEntry maker before signed key_unknown = ⊥
IsBadEntry maker before signed bad_statement = ⊥
IsBadEntry maker before signed (wrong_number named last) = ⊥
IsBadEntry maker before signed key_ended = ⊥

-- an entry of the log is refused for this, and those before it are good
pub record HasBadEntry (maker : PublicKey) (log : List SignedEntry) (why : ChainRefusal) : Type 0 where
  pub before : List SignedEntry
  pub signed : SignedEntry
  pub rest : List SignedEntry
  pub split : log ≡ before ++ signed ∷ rest
  pub good : AreGood maker before
  pub bad : IsBadEntry maker (figures_of (entries_of before)) signed why

-- the statement of a key that the log makes is refused for this, the first check that it fails
abbrev pub IsBadStatement : List Entry → ℕ → KeyEntry → Statement → ChainRefusal → Type 0
IsBadStatement log n made statement bad_statement = IsStated log n made.key statement → ⊥
IsBadStatement log n made statement (wrong_number named last) =
    IsStated log n made.key statement × (named ≡ statement.number) × (last ≡ number_of log) × (named ≢ last)
IsBadStatement log n made statement key_ended =
    IsStated log n made.key statement × (statement.number ≡ number_of log) × (is_alive log n made.layer ≡ false)
IsBadStatement log n made statement (bad_form offset) = ⊥
IsBadStatement log n made statement (bad_signature i) = ⊥
IsBadStatement log n made statement (bad_order i) = ⊥
IsBadStatement log n made statement (breaks_rules i) = ⊥
IsBadStatement log n made statement key_unknown = ⊥
