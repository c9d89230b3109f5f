-- What is read of a flash in segments. Is every entry there that the header counts?
use Rattle.std.specs.Prelude.{◌≡◌, ◌<◌, ◌≤◌, ℕ, List, length, Option, None, Some, IfSome}
use Rattle.mb_model.specs.declared.limits.TheConstants.{CODE_LIMIT, ENTRY_LIMIT, FILE_LIMIT}
use Rattle.mb_model.specs.declared.entry.SignedEntry.{SignedEntry}
use Rattle.mb_model.specs.declared.stored.Slot.{Slot}
use Rattle.mb_model.specs.declared.stored.Header.{Header}
use Rattle.mb_model.specs.memories.Flash.{HoldsLog}
use Rattle.mb_model_lemmas.specs.SegmentLaws.{HoldsNoEntry}

-- an existing slot, with a length of code that fits it
pub record IsSlot (slot : Slot) : Type 0 where
  pub which : slot.which ≤ 2
  pub length : slot.length ≤ CODE_LIMIT

-- what a header names is in the flash, and its texts are short enough to be read
pub record IsReadable (header : Header) : Type 0 where
  pub one : IsSlot header.one
  pub two : IsSlot header.two
  pub three : IsSlot header.three
  pub signed : header.signed ≤ ENTRY_LIMIT
  pub first : IfSome header.first (λ text. length text ≤ FILE_LIMIT)
  pub second : IfSome header.second (λ text. length text ≤ FILE_LIMIT)

-- how many unsigned entries a header has
abbrev pub texts_among : Option (List ℕ) → Option (List ℕ) → ℕ
texts_among None second = 0
texts_among (Some first) None = 1
texts_among (Some first) (Some second) = 2

abbrev pub text_count : Header → ℕ
text_count header = texts_among header.first header.second

-- some sector of the log below the count holds no entry
pub record LacksEntry (flash : List ℕ) (count : ℕ) : Type 0 where
  pub position : ℕ
  pub below : position < count
  pub none : HoldsNoEntry flash position

-- the signed entries stand in the sectors of the log below the count
pub record IsLogOf (flash : List ℕ) (count : ℕ) (log : List SignedEntry) : Type 0 where
  pub count_is : length log ≡ count
  pub holds : HoldsLog flash log
