-- With which value bytes begin, once a cursor has read from their beginning.
use Rattle.std.proofs.Common.{◌≡◌, ℕ, List, Option, Some, None, Result, Ok, Err, sym, ◌∙◌, arith}
use Rattle.mb_format.specs.Format.{Format, SpelledAt}
use Rattle.mb_format.specs.Reading.{IsExact}
use Rattle.mb_model.specs.memories.Sectors.{BeginsAs}
use Rattle.mb_bytes.specs.declared.cursor.Cursor.{Cursor}
use Rattle.mb_bytes.specs.Reads.{ReadsOk, ReadsErr, ReadsErrAt}
use Rattle.mb_bytes.proofs.Exactly.{stands}
use Rattle.mb_segments.specs.Beginnings.{FailsBeginningAt}

-- a value was read
pub begins_read : {A : Type 0} {f : Format A} {a : A} {old new : Cursor} (bytes : List ℕ) → IsExact f → old.bytes.now ≡ bytes → old.offset ≡ 0 → ReadsOk f old a new → BeginsAs f bytes a
begins_read {A} {f} {a} {old} {new} bytes exact same first r =
    let s = exact.found old.bytes.now old.offset a new.offset (stands old) r.reads in
    record { after = new.offset; spelled = rw (same, first) at s }

-- reading failed, where the error points at an offset or nowhere
pub fails_read : {A : Type 0} {f : Format A} (old new : Cursor) (bytes : List ℕ) → IsExact f → old.bytes.now ≡ bytes → old.offset ≡ 0 → (at : Option ℕ) → ReadsErrAt f old at new → FailsBeginningAt f bytes at
fails_read old new bytes exact same first (Some at) r =
    let s = exact.fails old.bytes.now old.offset at (stands old) r.reads in
    rw (same, first) at s
fails_read old new bytes exact same first None r = tt

-- where reading failed, the bytes begin with no value
pub begins_none : {A : Type 0} {f : Format A} {at : ℕ} {old new : Cursor} (bytes : List ℕ) → IsExact f → old.bytes.now ≡ bytes → old.offset ≡ 0 → ReadsErr f old at new → (a : A) → BeginsAs f bytes a → ⊥
begins_none {A} {f} {at} {old} {new} bytes exact same first r a begins =
    let spelled : SpelledAt f.spelling f.Allowed old.bytes.now old.offset a begins.after = rw (same, first) begins.spelled in
    let found = exact.finds old.bytes.now old.offset a begins.after (stands old) spelled in
    let no : ◌≡◌ {A = Result (A × ℕ) ℕ} (Ok (a, begins.after)) (Err at) = sym found ∙ r.reads in
    absurd (grind (arith, no))
