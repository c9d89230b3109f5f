-- How a statement is attached to a chain. Which part of a device's log shows the code that made a statement?
use Rattle.std.specs.Prelude.{ℕ, nat_lt, Bool, false, not, List, [], ◌∷◌, take_while, None, Some}
use Rattle.mb_model.specs.declared.entry.Chain.{Chain}
use Rattle.mb_model.specs.declared.entry.Entry.{Entry}
use Rattle.mb_model.specs.declared.entry.Entry.TheVariants.{Birth, Change, NewKey, Succession}
use Rattle.mb_model.specs.declared.entry.SignedEntry.{SignedEntry}
use Rattle.mb_model.specs.declared.entry.Statement.{Statement}

-- the chain of a whole log, without a statement
abbrev pub bare_chain : List SignedEntry → Chain
bare_chain log = record { entries = log; statement = None }

-- whether an entry is a change with a number above `bound`
abbrev pub is_change_above : ℕ → Entry → Bool
is_change_above bound (Birth version serial key layers) = false
is_change_above bound (Change version position number kind layer cosigned layers kept next) = nat_lt bound number
is_change_above bound (NewKey position number key_number layer kind key) = false
is_change_above bound (Succession position key) = false

-- The entries of a chain with a statement of this configuration number: the birth, and those after it that stand before
-- the first change with a higher number.
abbrev pub cut_at : ℕ → List SignedEntry → List SignedEntry
cut_at number [] = []
cut_at number (birth ∷ rest) = birth ∷ take_while (λ signed. not (is_change_above number signed.entry)) rest

-- the chain of a log with this statement attached
abbrev pub stated_chain : List SignedEntry → Statement → Chain
stated_chain log statement = record { entries = cut_at statement.number log; statement = Some statement }
