-- A reader of the beginning of bytes. Which value stands there?
use Rattle.std.specs.Prelude.{ℕ, List, Option, Some, None, Result, Ok, Err}
use Rattle.mb_format.specs.Format.{Format}
use Rattle.mb_model.specs.memories.Sectors.{BeginsAs}

-- The value that the bytes begin with; None exactly if they begin with none. It says of bytes what `FindsBy` of
-- `mb_layout` says of any search; neither crate stands on the other.
abbrev pub FindsBeginning : {A X : Type 0} → (X → A) → Format A → List ℕ → Option X → Type 0
FindsBeginning view f bytes (Some x) = BeginsAs f bytes (view x)
FindsBeginning {A} view f bytes None = (a : A) → BeginsAs f bytes a → ⊥

-- if an error points at an offset, the bytes fail there, read from their beginning
abbrev pub FailsBeginningAt : {A : Type 0} → Format A → List ℕ → Option ℕ → Type 0
FailsBeginningAt f bytes (Some at) = f.FailsAt bytes 0 at
FailsBeginningAt f bytes None = Unit {0}

-- Ok exactly with the value that the bytes begin with, else exactly the offset that fails, or no memory. `points` is
-- the offset at which an error points, and None if an allocation failed.
abbrev pub ReadsBeginning : {A E : Type 0} → (E → Option ℕ) → Format A → List ℕ → Result A E → Type 0
ReadsBeginning points f bytes (Ok a) = BeginsAs f bytes a
ReadsBeginning points f bytes (Err e) = FailsBeginningAt f bytes (points e)
