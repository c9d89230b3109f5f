-- Items that are read one after another and not kept.
use Rattle.std.proofs.Common.{◌≡◌, ℕ, ◌+◌, ◌-◌, ◌<◌, ◌≤◌, List, [], ◌∷◌, ◌++◌, length, take, drop, Ok, Err, refl, ap, ◌∙◌, length-append, arith}
use Rattle.std.proofs.Math.Seq.{take-append_seam}
use Rattle.mb_format.specs.Format.{Format, Spells}
use Rattle.mb_format.specs.Reading.{IsExact}
use Rattle.mb_format.proofs.Exact.{met}
use Rattle.mb_format.proofs.Whole.{at_start, whole_spelled}
use Rattle.mb_format.specs.Format.{IsBytes}
use Rattle.mb_bytes.specs.declared.cursor.Cursor.{Cursor}
use Rattle.mb_bytes.specs.Reads.{ReadsOk}
use Rattle.mb_bytes.proofs.Exactly.{stands}
use Rattle.mb_bytes.proofs.Reading.{IsReading, reading_begins, reading_goes_on}

-- i of n items have been read
pub record IsPassing {A : Type 0} (item : Format A) (n i : ℕ) (old now : Cursor) : Type 0 where
  pub front : List A
  pub number : length front ≡ i
  pub reading : IsReading (λ (u : Unit {0}). item) (λ u a. u) n i tt tt front old now

pub passing_begins : {A : Type 0} (item : Format A) (n : ℕ) (old : Cursor) → IsPassing item n 0 old old
passing_begins {A} item n old = record { front = []; number = refl; reading = reading_begins (λ (u : Unit {0}). item) (λ u a. u) n tt old }

pub passing_goes_on : {A : Type 0} {item : Format A} {n i : ℕ} {old now after : Cursor} (a : A) → i < n → IsPassing item n i old now → ReadsOk item now a after → IsPassing item n (i + 1) old after
passing_goes_on {A} {item} {n} {i} {old} {now} {after} a lt is r = record {
  front = is.front ++ a ∷ [];
  number = omega (arith, length-append is.front (a ∷ []), is.number);
  reading = reading_goes_on a lt is.reading r;
}

-- what was read stands between the two offsets
pub between_offsets : {A : Type 0} {f : Format A} {old new : Cursor} {a : A} → IsExact f → ReadsOk f old a new → take (new.offset - old.offset) (drop old.offset old.bytes.now) ≡ f.spelling a
between_offsets {A} {f} {old} {new} {a} exact r =
    let s = exact.found old.bytes.now old.offset a new.offset (stands old) r.reads in
    let size : new.offset - old.offset ≡ length (f.spelling a) = omega (arith, s.ends) in
    ap (take (new.offset - old.offset)) s.here ∙ ap (λ (k : ℕ). take k (f.spelling a ++ drop new.offset old.bytes.now)) size ∙ take-append_seam (f.spelling a) (drop new.offset old.bytes.now)

pub offsets_ascend : {A : Type 0} {f : Format A} {old new : Cursor} {a : A} → IsExact f → ReadsOk f old a new → old.offset ≤ new.offset
offsets_ascend {A} {f} {old} {new} {a} exact r = let s = exact.found old.bytes.now old.offset a new.offset (stands old) r.reads in omega (arith, s.ends)

-- bytes that spell a value are read as that value alone
pub read_once : {A : Type 0} {f : Format A} {bytes : List ℕ} {a b : A} {after : ℕ} → IsExact f → IsBytes bytes → f.reads bytes 0 ≡ Ok (b, after) → Spells f bytes a → a ≡ b
read_once {A} {f} {bytes} {a} {b} {after} exact are r s = (met f exact bytes 0 a b (length bytes) after (at_start bytes are) (whole_spelled f bytes a s) r).0

pub never_read : {A : Type 0} {f : Format A} {bytes : List ℕ} {a : A} {at : ℕ} → IsExact f → IsBytes bytes → f.reads bytes 0 ≡ Err at → Spells f bytes a → ⊥
never_read {A} {f} {bytes} {a} {at} exact are r s =
    let found = exact.finds bytes 0 a (length bytes) (at_start bytes are) (whole_spelled f bytes a s) in
    cc
