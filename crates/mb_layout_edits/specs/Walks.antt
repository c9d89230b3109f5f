-- A reader that keeps only the number of the items that it passes. What stood there?
use Rattle.std.specs.Prelude.{◌≡◌, ℕ, List, length, Result, Ok, Err}
use Rattle.mb_format.specs.Format.{Format}
use Rattle.mb_model.specs.declared.tools.BadRecord.{BadRecord}
use Rattle.mb_bytes.specs.declared.cursor.Cursor.{Cursor}
use Rattle.mb_bytes.specs.Reads.{ReadsOk, ReadsErr}

-- a list of n items was read
pub record Passed {A : Type 0} (f : Format (List A)) (old : Cursor) (n : ℕ) (new : Cursor) : Type 0 where
  pub items : List A
  pub number : length items ≡ n
  pub reads : ReadsOk f old items new

abbrev pub PassesOver : {A : Type 0} → Format (List A) → Cursor → Result ℕ BadRecord → Cursor → Type 0
PassesOver f old (Ok n) new = Passed f old n new
PassesOver f old (Err bad) new = ReadsErr f old bad.at new
