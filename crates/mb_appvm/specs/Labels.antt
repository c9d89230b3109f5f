-- Which labels a table has, and with which lines. Are they those of the lines, or of the text, that it was made of?
use Rattle.std.specs.Prelude.{◌≡◌, ◌⊎◌, ◌↔◌, ℕ, List, Option, None, Some, Bool, IsTrue, is_some, if◌then◌else◌}
use Rattle.std.specs.List.{position_from}
use Rattle.std.specs.Ordering.{nat_cmp}
use Rattle.std.specs.Cmp.Lexicographic.{slice_cmp}
use Rattle.std.specs.BTreeMap.{get_by}
use Rattle.mb_appvm.specs.declared.table.Labels.{Labels}
use Rattle.mb_appvm.specs.declared.lines.Said.{Said}
use Rattle.mb_appvm.specs.declared.lines.Said.TheVariants as says
use Rattle.mb_appvm.specs.Assembly.{SaysAssemblyLine, is_label}
use Rattle.mb_appvm.specs.Checking.{TextGives}

-- the line with which a table has a label
abbrev pub line_at : Labels → List ℕ → Option ℕ
line_at labels name = get_by (λ key. slice_cmp nat_cmp name key.now) labels.lines

-- each label has the first line that gives it
abbrev pub AreOfLines : List Said → Labels → Type 0
AreOfLines said labels = (name : List ℕ) → line_at labels name ≡ position_from (is_label name) 0 said

-- the labels are those that the text gives
abbrev pub AreOfText : List ℕ → Labels → Type 0
AreOfText text labels = (name : List ℕ) → IsTrue (is_some (line_at labels name)) ↔ TextGives text name

-- ---- one line more

-- a label that has a line keeps it
abbrev pub kept_or : Option ℕ → Bool → ℕ → Option ℕ
kept_or (Some line) gives at = Some line
kept_or None gives at = if gives then Some at else None

abbrev pub IsAdded : Labels → Said → ℕ → Labels → Type 0
IsAdded old line at new = (name : List ℕ) → line_at new name ≡ kept_or (line_at old name) (is_label name line) at

-- besides the labels that it had, the table has the one that the line gives
abbrev pub HasMore : Labels → List ℕ → Labels → Type 0
HasMore old line new = (name : List ℕ)
    → IsTrue (is_some (line_at new name))
    ↔ (IsTrue (is_some (line_at old name)) ⊎ SaysAssemblyLine line (says.Label name))
