-- A reader of whole bytes needs no more of them than its format can reach, and fails no further on.
use Rattle.std.proofs.Common.{◌≡◌, ℕ, ◌-◌, ◌<◌, ◌≤◌, List, take, Option, Some, None, Result, Ok, Err, refl, sym, ◌∙◌, arith}
use Rattle.std.specs.Prelude.{IfErr, IfSome}
use Rattle.std.specs.List.{slice_range}
use Rattle.mb_format.specs.Format.{Format, IsBytes, FailsWhole}
use Rattle.mb_format.specs.Reading.{IsExact, IsLocal, IsExactWhole}
use Rattle.mb_format.proofs.Exact.{IsBytes-take}
use Rattle.mb_format.proofs.Whole.{IsExactWhole-from_exact, reads_whole-cut, reads_whole-near}
use Rattle.mb_bytes.specs.Reads.{ReadsWholeAs, FailsWholeAt}

fails_cut : {A : Type 0} {f : Format A} {n : ℕ} → IsExact f → IsLocal f n → (bytes : List ℕ) (m : ℕ) → IsBytes bytes → n < m → (at : Option ℕ) → FailsWholeAt f (take m bytes) at → FailsWholeAt f bytes at
fails_cut {f} exact is bytes m h lt (Some at) fails =
    let whole : IsExactWhole f = IsExactWhole-from_exact exact in
    whole.fails bytes at h (sym (reads_whole-cut is bytes m h lt) ∙ whole.failed (take m bytes) at (IsBytes-take m bytes h) fails)
fails_cut exact is bytes m h lt None fails = tt

-- where more than n bytes are read, these are all that a reader looks at
pub whole_cut : {A X E : Type 0} {f : Format A} {n : ℕ} (view : X → A) (points : E → Option ℕ) → IsExact f → IsLocal f n → (bytes : List ℕ) (m : ℕ) → IsBytes bytes → n < m → (r : Result X E)
    → ReadsWholeAs view points f (take m bytes) r → ReadsWholeAs view points f bytes r
whole_cut {f} view points exact is bytes m h lt (Ok x) read =
    let whole : IsExactWhole f = IsExactWhole-from_exact exact in
    whole.found bytes (view x) h (sym (reads_whole-cut is bytes m h lt) ∙ whole.finds (take m bytes) (view x) (IsBytes-take m bytes h) read)
whole_cut view points exact is bytes m h lt (Err e) read = fails_cut exact is bytes m h lt (points e) read

-- the same of the first m bytes, as a slice has them
pub whole_first : {A X E : Type 0} {f : Format A} {n : ℕ} (view : X → A) (points : E → Option ℕ) → IsExact f → IsLocal f n → (bytes first : List ℕ) (m : ℕ) → IsBytes bytes → n < m → first ≡ slice_range bytes 0 m → (r : Result X E)
    → ReadsWholeAs view points f first r → ReadsWholeAs view points f bytes r
whole_first view points exact is bytes first m h lt e r read =
    let to_m : m - 0 ≡ m = omega arith in
    let same : slice_range bytes 0 m ≡ take m bytes = rw to_m refl in
    whole_cut view points exact is bytes m h lt r (rw (← same, ← e) read)

-- bytes as a whole fail no further on than the format reaches
pub whole_near : {A : Type 0} {f : Format A} {n : ℕ} → IsExact f → IsLocal f n → (bytes : List ℕ) → IsBytes bytes → (at : ℕ) → FailsWhole f bytes at → at ≤ n
whole_near {A} {f} exact is bytes h at fails =
    let whole : IsExactWhole f = IsExactWhole-from_exact exact in
    reads_whole-near is bytes at h (whole.failed bytes at h fails)

near_at : {A : Type 0} {f : Format A} {n : ℕ} → IsExact f → IsLocal f n → (bytes : List ℕ) → IsBytes bytes → (m : ℕ) → n ≤ m → (at : Option ℕ) → FailsWholeAt f bytes at → IfSome at (λ offset. offset ≤ m)
near_at exact is bytes h m le (Some at) fails = let near = whole_near exact is bytes h at fails in omega arith
near_at exact is bytes h m le None fails = tt

-- the offset at which an error points is no further on
pub reads_near : {A X E : Type 0} {f : Format A} {n : ℕ} (view : X → A) (points : E → Option ℕ) → IsExact f → IsLocal f n → (bytes : List ℕ) → IsBytes bytes → (m : ℕ) → n ≤ m → (r : Result X E)
    → ReadsWholeAs view points f bytes r → IfErr r (λ e. IfSome (points e) (λ offset. offset ≤ m))
reads_near view points exact is bytes h m le (Ok x) read = tt
reads_near view points exact is bytes h m le (Err e) read = near_at exact is bytes h m le (points e) read
