-- What a reader of a format gives: the value that is spelled at the cursor's offset, or the offset that fails.
use Rattle.std.specs.Prelude.{◌≡◌, ℕ, List, Option, Some, None, Result, Ok, Err}
use Rattle.mb_format.specs.Format.{Format, SpelledAt, Spells, FailsWhole}
use Rattle.mb_model.specs.declared.tools.BadRecord.{BadRecord}
use Rattle.mb_bytes.specs.declared.cursor.Cursor.{Cursor}
use Rattle.mb_bytes.specs.declared.cursor.Short.{Short}

-- the offset of a field that has too few bytes
abbrev pub short_at : Short → Option ℕ
short_at e = Some e.at

-- the offset at which a record is not in its form
abbrev pub bad_at : BadRecord → Option ℕ
bad_at e = Some e.at

-- both cursors are of the same bytes
abbrev pub SameBytes : Cursor → Cursor → Type 0
SameBytes old new = new.bytes.now ≡ old.bytes.now

-- ---- readers of a part, which are composed

-- the value was read, and the cursor stands after it
pub record ReadsOk {A : Type 0} (f : Format A) (old : Cursor) (a : A) (new : Cursor) : Type 0 where
  pub bytes : SameBytes old new
  pub reads : f.reads old.bytes.now old.offset ≡ Ok (a, new.offset)

-- reading failed at an offset; the cursor may stand anywhere
pub record ReadsErr {A : Type 0} (f : Format A) (old : Cursor) (at : ℕ) (new : Cursor) : Type 0 where
  pub bytes : SameBytes old new
  pub reads : f.reads old.bytes.now old.offset ≡ Err at

-- if the error points at an offset, reading failed there; the bytes are the same in any case
abbrev pub ReadsErrAt : {A : Type 0} → Format A → Cursor → Option ℕ → Cursor → Type 0
ReadsErrAt f old (Some at) new = ReadsErr f old at new
ReadsErrAt f old None new = SameBytes old new

-- The result is what reading the format gives. `view` gives the value that the result means; `points` gives the offset
-- at which an error points, and None if an allocation failed.
abbrev pub ReadsAs : {A X E : Type 0} → (X → A) → (E → Option ℕ) → Format A → Cursor → Result X E → Cursor → Type 0
ReadsAs view points f old (Ok x) new = ReadsOk f old (view x) new
ReadsAs view points f old (Err e) new = ReadsErrAt f old (points e) new

abbrev pub Reads : {A E : Type 0} → (E → Option ℕ) → Format A → Cursor → Result A E → Cursor → Type 0
Reads points = ReadsAs (λ a. a) points

-- ---- readers that others call

-- the value is spelled at the offset, and the cursor stands after it
pub record IsRead {A : Type 0} (f : Format A) (old : Cursor) (a : A) (new : Cursor) : Type 0 where
  pub bytes : SameBytes old new
  pub spelled : SpelledAt f.spelling f.Allowed old.bytes.now old.offset a new.offset

-- the cursor is unchanged
pub record IsLeft (old new : Cursor) : Type 0 where
  pub bytes : SameBytes old new
  pub offset : new.offset ≡ old.offset

-- the bytes from the cursor's offset on fail at an offset, and the cursor is unchanged
pub record IsNotRead {A : Type 0} (f : Format A) (old : Cursor) (at : ℕ) (new : Cursor) : Type 0 where
  pub left : IsLeft old new
  pub fails : f.FailsAt old.bytes.now old.offset at

abbrev pub IsNotReadAt : {A : Type 0} → Format A → Cursor → Option ℕ → Cursor → Type 0
IsNotReadAt f old (Some at) new = IsNotRead f old at new
IsNotReadAt f old None new = IsLeft old new

-- Ok exactly with the value that is spelled at the offset, or else exactly the offset that fails, or no memory
abbrev pub ReadsExactlyAs : {A X E : Type 0} → (X → A) → (E → Option ℕ)
    → Format A → Cursor → Result X E → Cursor → Type 0
ReadsExactlyAs view points f old (Ok x) new = IsRead f old (view x) new
ReadsExactlyAs view points f old (Err e) new = IsNotReadAt f old (points e) new

abbrev pub ReadsExactly : {A E : Type 0} → (E → Option ℕ) → Format A → Cursor → Result A E → Cursor → Type 0
ReadsExactly points = ReadsExactlyAs (λ a. a) points

-- ---- readers of whole bytes

abbrev pub FailsWholeAt : {A : Type 0} → Format A → List ℕ → Option ℕ → Type 0
FailsWholeAt f bytes (Some at) = FailsWhole f bytes at
FailsWholeAt f bytes None = Unit {0}

-- Ok exactly with the value that the whole of the bytes spells, or else exactly the offset that fails, or no memory
abbrev pub ReadsWholeAs : {A X E : Type 0} → (X → A) → (E → Option ℕ) → Format A → List ℕ → Result X E → Type 0
ReadsWholeAs view points f bytes (Ok x) = Spells f bytes (view x)
ReadsWholeAs view points f bytes (Err e) = FailsWholeAt f bytes (points e)

abbrev pub ReadsWhole : {A E : Type 0} → (E → Option ℕ) → Format A → List ℕ → Result A E → Type 0
ReadsWhole points = ReadsWholeAs (λ a. a) points
