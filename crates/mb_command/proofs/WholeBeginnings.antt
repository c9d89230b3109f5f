-- Bytes as a whole that fail whatever follows, or that some bytes complete.
use Rattle.std.proofs.Common.{◌≡◌, ℕ, ◌<◌, ◌≤◌, inl, inr, List, [], ◌++◌, length, Ok, arith, append_assoc, append-nil}
use Rattle.std.proofs.lemmas.List.{length-append}
use Rattle.mb_format.specs.Format.{IsBytes, Format}
use Rattle.mb_format.specs.Reading.{IsExact, IsExactWhole}
use Rattle.mb_command.specs.Beginnings.{FailsHowever, CanBecome, FailsFrom, CanEndFrom}
use Rattle.mb_format.proofs.Whole.{IsExactWhole-from_exact, at_start, whole_from}
use Rattle.mb_format.proofs.Exact.{IsBytes-append, IsBytes-none}
use Rattle.mb_command.proofs.Following.{spelled_more}

-- bytes that fail whatever follows can become no value
pub never_both : {A : Type 0} (f : Format A) → IsExact f → (bytes : List ℕ) (offset : ℕ) → IsBytes bytes → FailsHowever f bytes offset → CanBecome f bytes → ⊥
never_both f exact bytes offset h fails can =
    let whole : IsExactWhole f = IsExactWhole-from_exact exact in
    let are = IsBytes-append bytes can.more h can.are_bytes in
    let e = whole.finds (bytes ++ can.more) can.value are can.spelled in
    let d = whole.failed (bytes ++ can.more) offset are (fails.fails can.more can.are_bytes) in
    cc

pub whole_lost : {A : Type 0} (f : Format A) → IsExact f → (bytes : List ℕ) (offset : ℕ) → IsBytes bytes → FailsFrom f bytes 0 offset → FailsHowever f bytes offset
whole_lost f exact bytes offset h fails = record { fails = λ more g. inl (exact.fails (bytes ++ more) 0 offset (at_start (bytes ++ more) (IsBytes-append bytes more h g)) (fails.fails more g)) }

pub whole_over : {A : Type 0} (f : Format A) → IsExact f → (bytes : List ℕ) (a : A) (after : ℕ) → IsBytes bytes → f.reads bytes 0 ≡ Ok (a, after) → after < length bytes → FailsHowever f bytes after
whole_over f exact bytes a after h e lt = record {
  fails = λ more g. inr (record {
    value = a;
    spelled = spelled_more f.spelling f.Allowed bytes more 0 a after (exact.found bytes 0 a after (at_start bytes h) e);
    left = omega (arith, lt, length-append bytes more);
  });
}

pub whole_here : {A : Type 0} (f : Format A) → IsExact f → (bytes : List ℕ) (a : A) (after : ℕ) → IsBytes bytes → f.reads bytes 0 ≡ Ok (a, after) → length bytes ≤ after → CanBecome f bytes
whole_here f exact bytes a after h e le = record {
  more = [];
  are_bytes = IsBytes-none;
  value = a;
  spelled = rw (append-nil bytes) (whole_from f bytes a after (exact.found bytes 0 a after (at_start bytes h) e) le);
}

pub whole_open : {A : Type 0} (f : Format A) → IsExact f → (bytes : List ℕ) → IsBytes bytes → CanEndFrom f bytes 0 → CanBecome f bytes
whole_open f exact bytes h can =
    let are = IsBytes-append bytes can.more h can.are_bytes in
    record {
      more = can.more;
      are_bytes = can.are_bytes;
      value = can.value;
      spelled = whole_from f (bytes ++ can.more) can.value (length (bytes ++ can.more)) (exact.found (bytes ++ can.more) 0 can.value (length (bytes ++ can.more)) (at_start (bytes ++ can.more) are) can.reads) (omega arith);
    }

-- what fails whatever follows does so with some of what follows
pub fails_more : {A : Type 0} (f : Format A) (bytes more : List ℕ) (offset : ℕ) → IsBytes more → FailsHowever f bytes offset → FailsHowever f (bytes ++ more) offset
fails_more f bytes more offset h fails = record { fails = λ later g. rw (append_assoc bytes more later) (fails.fails (more ++ later) (IsBytes-append more later h g)) }
