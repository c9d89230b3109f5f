-- What can follow bytes that are read before all of them are there.
use Rattle.std.proofs.Common.{◌≡◌, ℕ, ◌+◌, ◌-◌, ◌<◌, ◌≤◌, List, ◌++◌, length, take, drop, replicate, Option, Result, Ok, Err, refl, sym, ap, ◌∙◌, arith, append_assoc, append-nil}
use Rattle.std.proofs.lemmas.List.{length-append, length-replicate, drop-append-le, drop_all, drop_at, take_at}
use Rattle.mb_format.specs.Format.{IsBytes, IsOffset, SpelledAt, Format}
use Rattle.mb_format.specs.Combinators.{raw, both, as_value}
use Rattle.mb_format.specs.Reading.{IsExact, IsLocal, raw_at}
use Rattle.mb_command.specs.Beginnings.{FailsFrom, CanEndFrom, IsInhabited}
use Rattle.mb_format.proofs.Steps.{raw_at-long}
use Rattle.mb_format.proofs.Exact.{IsBytes-append, IsBytes-replicate}

-- ---- bytes that follow

pub offset_more : (bytes more : List ℕ) (at : ℕ) → IsOffset bytes at → IsBytes more → IsOffset (bytes ++ more) at
offset_more bytes more at p g = record { are_bytes = IsBytes-append bytes more p.are_bytes g; within = omega (arith, p.within, length-append bytes more) }

pub offset_end : (bytes more : List ℕ) → IsBytes bytes → IsBytes more → IsOffset (bytes ++ more) (length bytes)
offset_end bytes more h g = record { are_bytes = IsBytes-append bytes more h g; within = omega (arith, length-append bytes more) }

-- what is spelled at an offset is so whatever follows
pub spelled_more : {A : Type 0} (spelling : A → List ℕ) (Allowed : A → Type 0) (bytes more : List ℕ) (at : ℕ) (a : A) (after : ℕ) → SpelledAt spelling Allowed bytes at a after → SpelledAt spelling Allowed (bytes ++ more) at a after
spelled_more spelling Allowed bytes more at a after s =
    let early : drop at (bytes ++ more) ≡ drop at bytes ++ more = drop-append-le at bytes more (omega (arith, s.ends, s.within)) in
    let late : drop after (bytes ++ more) ≡ drop after bytes ++ more = drop-append-le after bytes more s.within in
    record {
      allowed = s.allowed;
      here = early ∙ ap (λ (front : List ℕ). front ++ more) s.here ∙ append_assoc (spelling a) (drop after bytes) more ∙ ap (λ (rest : List ℕ). spelling a ++ rest) (sym late);
      ends = s.ends;
      within = omega (arith, s.within, length-append bytes more);
    }

-- what is read at an offset is so whatever follows
pub reads_more : {A : Type 0} (f : Format A) → IsExact f → (bytes more : List ℕ) (at : ℕ) (a : A) (after : ℕ) → IsOffset bytes at → IsBytes more
    → f.reads bytes at ≡ Ok (a, after) → f.reads (bytes ++ more) at ≡ Ok (a, after)
reads_more f exact bytes more at a after p g e =
    exact.finds (bytes ++ more) at a after (offset_more bytes more at p g) (spelled_more f.spelling f.Allowed bytes more at a after (exact.found bytes at a after p e))

-- a value is read where its spelling follows
pub reads_end : {A : Type 0} (f : Format A) → IsExact f → (bytes : List ℕ) (a : A) → IsBytes bytes → f.Allowed a → IsBytes (f.spelling a) → f.reads (bytes ++ f.spelling a) (length bytes) ≡ Ok (a, length (bytes ++ f.spelling a))
reads_end f exact bytes a h allowed g =
    exact.finds (bytes ++ f.spelling a) (length bytes) a (length (bytes ++ f.spelling a)) (offset_end bytes (f.spelling a) h g) (record {
      allowed = allowed;
      here = drop_at bytes (f.spelling a) (length bytes) refl ∙ sym (append-nil (f.spelling a)) ∙ ap (λ (rest : List ℕ). f.spelling a ++ rest) (sym (drop_all (length (bytes ++ f.spelling a)) (bytes ++ f.spelling a) (omega arith)));
      ends = length-append bytes (f.spelling a);
      within = omega arith;
    })

-- ---- one format after another

pub both_lost_first : {A B : Type 0} (f : Format A) (g : A → Format B) (bytes : List ℕ) (at offset : ℕ) → FailsFrom f bytes at offset → FailsFrom (both f g) bytes at offset
both_lost_first f g bytes at offset fails = record { fails = λ more h. rw (fails.fails more h) refl }

pub both_lost_second : {A B : Type 0} (f : Format A) (g : A → Format B) → IsExact f → (bytes : List ℕ) (at : ℕ) (a : A) (middle offset : ℕ) → IsOffset bytes at
    → f.reads bytes at ≡ Ok (a, middle) → FailsFrom (g a) bytes middle offset → FailsFrom (both f g) bytes at offset
both_lost_second f g exact bytes at a middle offset p e fails = record { fails = λ more h. rw (reads_more f exact bytes more at a middle p h e, fails.fails more h) refl }

pub both_open_second : {A B : Type 0} (f : Format A) (g : A → Format B) → IsExact f → (bytes : List ℕ) (at : ℕ) (a : A) (middle : ℕ) → IsOffset bytes at
    → f.reads bytes at ≡ Ok (a, middle) → CanEndFrom (g a) bytes middle → CanEndFrom (both f g) bytes at
both_open_second f g exact bytes at a middle p e can = record {
  more = can.more;
  are_bytes = can.are_bytes;
  value = (a, can.value);
  reads = rw (reads_more f exact bytes can.more at a middle p can.are_bytes e, can.reads) refl;
}

pub both_open_first : {A B : Type 0} (f : Format A) (g : A → Format B) → IsExact f → ((a : A) → f.Allowed a → IsExact (g a)) → ((a : A) → f.Allowed a → IsInhabited (g a)) → (bytes : List ℕ) (at : ℕ) → IsOffset bytes at
    → CanEndFrom f bytes at → CanEndFrom (both f g) bytes at
both_open_first f g exact following inhabited bytes at p can =
    let whole = bytes ++ can.more in
    let q : IsOffset (bytes ++ can.more) at = offset_more bytes can.more at p can.are_bytes in
    let allowed : f.Allowed can.value = (exact.found (bytes ++ can.more) at can.value (length (bytes ++ can.more)) q can.reads).allowed in
    let some = inhabited can.value allowed in
    let first : f.reads ((bytes ++ can.more) ++ (g can.value).spelling some.value) at ≡ Ok (can.value, length (bytes ++ can.more)) =
    reads_more f exact (bytes ++ can.more) ((g can.value).spelling some.value) at can.value (length (bytes ++ can.more)) q some.are_bytes can.reads in
    let second : (g can.value).reads ((bytes ++ can.more) ++ (g can.value).spelling some.value) (length (bytes ++ can.more)) ≡ Ok (some.value, length ((bytes ++ can.more) ++ (g can.value).spelling some.value)) =
    reads_end (g can.value) (following can.value allowed) (bytes ++ can.more) some.value q.are_bytes some.allowed some.are_bytes in
    let flat : (bytes ++ can.more) ++ (g can.value).spelling some.value ≡ bytes ++ (can.more ++ (g can.value).spelling some.value) = append_assoc bytes can.more ((g can.value).spelling some.value) in
    let both_reads : (both f g).reads ((bytes ++ can.more) ++ (g can.value).spelling some.value) at ≡ Ok ((can.value, some.value), length ((bytes ++ can.more) ++ (g can.value).spelling some.value)) = rw (first, second) refl in
    record {
      more = can.more ++ (g can.value).spelling some.value;
      are_bytes = IsBytes-append can.more ((g can.value).spelling some.value) can.are_bytes some.are_bytes;
      value = (can.value, some.value);
      reads = rw (← flat) both_reads;
    }

-- ---- values made of what was read

pub as_value_lost : {A B : Type 0} (f : Format A) (into : A → B) (out : B → Option A) (bytes : List ℕ) (at offset : ℕ) → FailsFrom f bytes at offset → FailsFrom (as_value f into out) bytes at offset
as_value_lost f into out bytes at offset fails = record { fails = λ more h. rw (fails.fails more h) refl }

pub as_value_open : {A B : Type 0} (f : Format A) (into : A → B) (out : B → Option A) (bytes : List ℕ) (at : ℕ) → CanEndFrom f bytes at → CanEndFrom (as_value f into out) bytes at
as_value_open f into out bytes at can = record { more = can.more; are_bytes = can.are_bytes; value = into can.value; reads = rw can.reads refl }

-- ---- single fields

abbrev raw_done : List ℕ → ℕ → Result (List ℕ × ℕ) ℕ
raw_done xs k = Ok (xs, k)

pub raw_can_end : (n : ℕ) (bytes : List ℕ) (at : ℕ) → length bytes < at + n → CanEndFrom (raw n) bytes at
raw_can_end n bytes at lt =
    let more = replicate (at + n - length bytes) 0 in
    let long : length (bytes ++ more) ≡ at + n = omega (arith, lt, length-append bytes more, length-replicate {A = ℕ} (at + n - length bytes) 0) in
    let e : raw_at n (bytes ++ more) at ≡ Ok (take n (drop at (bytes ++ more)), at + n) = raw_at-long n (bytes ++ more) at (omega (arith, long)) in
    record {
      more = more;
      are_bytes = IsBytes-replicate (at + n - length bytes) 0 (omega arith);
      value = take n (drop at (bytes ++ more));
      reads = e ∙ ap (λ (k : ℕ). raw_done (take n (drop at (bytes ++ replicate (at + n - length bytes) 0))) k) (sym long);
    }

-- a field of which no byte is there yet can follow
pub none_there : {A : Type 0} (f : Format A) → IsExact f → IsInhabited f → (bytes : List ℕ) (at : ℕ) → IsBytes bytes → at ≡ length bytes → CanEndFrom f bytes at
none_there f exact some bytes at h e = record {
  more = f.spelling some.value;
  are_bytes = some.are_bytes;
  value = some.value;
  reads = rw e (reads_end f exact bytes some.value h some.allowed some.are_bytes);
}

-- where as many bytes are there as reading depends on, it fails as it does now
pub all_there : {A : Type 0} (f : Format A) (n : ℕ) → IsLocal f n → (bytes : List ℕ) (at offset : ℕ) → IsOffset bytes at → at + n ≤ length bytes → f.reads bytes at ≡ Err offset → FailsFrom f bytes at offset
all_there f n local bytes at offset p le e = record {
  fails = λ more h. (
      let first : take (length bytes) (bytes ++ more) ≡ bytes = take_at bytes more (length bytes) refl in
      let same : f.reads (take (length bytes) (bytes ++ more)) at ≡ f.reads (bytes ++ more) at = local.same (bytes ++ more) at (length bytes) (offset_more bytes more at p h) le in
      let now : f.reads (take (length bytes) (bytes ++ more)) at ≡ Err offset = rw first e in
      sym same ∙ now);
}
