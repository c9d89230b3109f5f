-- From what a reader works out to what is spelled.
use Rattle.std.proofs.Common.{◌≡◌, ℕ, ◌+◌, ◌-◌, ◌<◌, ◌≤◌, Bool, true, false, cond, List, length, take, drop, Option, Some, None, Result, Ok, Err, refl, sym, ap, ◌∙◌, ltb, arith, inl, inr}
use Rattle.std.specs.Int.{Width, byte_len, from_be_bytes}
use Rattle.mb_format.specs.Format.{Format, IsOffset, SpelledAt, Spells, FailsWhole}
use Rattle.mb_format.specs.Combinators.{number, raw, same_bytes, mark}
use Rattle.mb_format.specs.Reading.{IsExact, number_at, raw_at, into_read}
use Rattle.mb_bytes.specs.declared.cursor.Cursor.{Cursor}
use Rattle.mb_format.proofs.Steps.{raw_at-long, raw_at-short}
use Rattle.mb_format.proofs.Fields.{same_bytes-true, same_bytes-refl}
use Rattle.std.proofs.lemmas.Slice.{between_to_end}
use Rattle.mb_bytes.specs.Reads.{SameBytes, ReadsOk, ReadsErr, ReadsErrAt, IsRead, IsLeft, IsNotRead, IsNotReadAt, FailsWholeAt}
use Rattle.mb_format.proofs.Whole.{whole_from}

-- a cursor stands at an offset of its bytes
pub stands : (old : Cursor) → IsOffset old.bytes.now old.offset
stands old = record { are_bytes = old.are_bytes; within = old.within }

pub is_read : {A : Type 0} {f : Format A} {old : Cursor} {a : A} {new : Cursor} → IsExact f → ReadsOk f old a new → IsRead f old a new
is_read {A} {f} {old} {a} {new} exact r = record { bytes = r.bytes; spelled = exact.found old.bytes.now old.offset a new.offset (stands old) r.reads }

pub is_not_read : {A : Type 0} {f : Format A} {at : ℕ} {old middle new : Cursor} → IsExact f → ReadsErr f old at middle → IsLeft old new → IsNotRead f old at new
is_not_read {A} {f} {at} {old} {middle} {new} exact r left = record { left = left; fails = exact.fails old.bytes.now old.offset at (stands old) r.reads }

-- the same where the error points at that offset, or nowhere
pub is_not_read_at : {A : Type 0} {f : Format A} {old new : Cursor} (middle : Cursor) → IsExact f → (at : Option ℕ) → ReadsErrAt f old at middle → IsLeft old new → IsNotReadAt f old at new
is_not_read_at middle exact (Some at) r left = is_not_read exact r left
is_not_read_at middle exact None r left = left

-- ---- whole bytes

spelled_first : {A : Type 0} {f : Format A} {a : A} {old new : Cursor} (bytes : List ℕ) → IsExact f → old.bytes.now ≡ bytes → old.offset ≡ 0 → ReadsOk f old a new → SpelledAt f.spelling f.Allowed bytes 0 a new.offset
spelled_first {A} {f} {a} {old} {new} bytes exact same first r =
    let s = exact.found old.bytes.now old.offset a new.offset (stands old) r.reads in
    rw (same, first) at s

-- a value was read from the beginning, and no byte is left
pub whole_read : {A : Type 0} {f : Format A} {a : A} {old new : Cursor} (bytes : List ℕ) → IsExact f → old.bytes.now ≡ bytes → old.offset ≡ 0 → ReadsOk f old a new → length bytes ≤ new.offset → Spells f bytes a
whole_read {A} {f} {a} {old} {new} bytes exact same first r all = whole_from f bytes a new.offset (spelled_first bytes exact same first r) all

-- a value was read from the beginning, and bytes are left
pub whole_left : {A : Type 0} {f : Format A} {a : A} {old new : Cursor} (bytes : List ℕ) → IsExact f → old.bytes.now ≡ bytes → old.offset ≡ 0 → ReadsOk f old a new → new.offset < length bytes → FailsWhole f bytes new.offset
whole_left {A} {f} {a} {old} {new} bytes exact same first r left = inr (record { value = a; spelled = spelled_first bytes exact same first r; left = left })

-- reading failed
pub whole_failed_at : {A : Type 0} {f : Format A} (old new : Cursor) (bytes : List ℕ) → IsExact f → old.bytes.now ≡ bytes → old.offset ≡ 0 → (at : Option ℕ) → ReadsErrAt f old at new → FailsWholeAt f bytes at
whole_failed_at {A} {f} old new bytes exact same first (Some at) r =
    let s = exact.fails old.bytes.now old.offset at (stands old) r.reads in
    inl (rw (same, first) at s)
whole_failed_at old new bytes exact same first None r = tt

-- ---- single fields

-- a number is read where its bytes are
number_at-raw : (w : Width) (bytes : List ℕ) (at : ℕ) → number_at w bytes at ≡ into_read (from_be_bytes w) (raw_at (byte_len w) bytes at)
unfolding number_at raw_at
number_at-raw w bytes at =
    elim (ltb (length bytes) (at + byte_len w)) as (λ (short : Bool). ◌≡◌ {A = Result (ℕ × ℕ) ℕ} (cond short (Err at) (Ok (from_be_bytes w (take (byte_len w) (drop at bytes)), at + byte_len w))) (into_read (from_be_bytes w) (cond short (Err at) (Ok (take (byte_len w) (drop at bytes), at + byte_len w))))) [ true ↦ refl | false ↦ refl ]

-- what is left of the bytes
pub rest_is : (bytes : List ℕ) (at : ℕ) → take (length bytes - at) (drop at bytes) ≡ drop at bytes
rest_is bytes at = between_to_end bytes at (length bytes) (omega arith)

-- raw bytes are read where they are the first of those left
pub raw_ok : (n : ℕ) {old new : Cursor} (value : List ℕ) → SameBytes old new → new.offset ≡ old.offset + n → old.offset + n ≤ length old.bytes.now → value ≡ take n (drop old.offset old.bytes.now) → ReadsOk (raw n) old value new
raw_ok n {old} {new} value same offset within is = record { bytes = same; reads = rw (is, offset) (raw_at-long n old.bytes.now old.offset within) }

pub raw_err : (n : ℕ) {old new : Cursor} → SameBytes old new → length old.bytes.now < old.offset + n → ReadsErr (raw n) old old.offset new
raw_err n {old} {new} same short = record { bytes = same; reads = raw_at-short n old.bytes.now old.offset short }

pub number_ok : (w : Width) {old new : Cursor} {value : List ℕ} → ReadsOk (raw (byte_len w)) old value new → ReadsOk (number w) old (from_be_bytes w value) new
number_ok w {old} {new} {value} r = record { bytes = r.bytes; reads = number_at-raw w old.bytes.now old.offset ∙ ap (into_read (from_be_bytes w)) r.reads }

pub number_err : (w : Width) {old new : Cursor} {at : ℕ} → ReadsErr (raw (byte_len w)) old at new → ReadsErr (number w) old at new
number_err w {old} {new} {at} r = record { bytes = r.bytes; reads = number_at-raw w old.bytes.now old.offset ∙ ap (into_read (from_be_bytes w)) r.reads }

-- ---- magic words

others_differ : (word found : List ℕ) (same : Bool) → same_bytes word found ≡ same → (found ≡ word → ⊥) → same ≡ false
others_differ word found true t other = absurd (other (sym (same_bytes-true word found t)))
others_differ word found false t other = refl

-- the bytes of the word were read, or others, or there are too few
pub mark_found : {n : ℕ} {old new : Cursor} (word found : List ℕ) → length word ≡ n → ReadsOk (raw n) old found new → found ≡ word → ReadsOk (mark word) old tt new
mark_found {n} {old} {new} word found size r same =
    record { bytes = r.bytes; reads = rw (size, r.reads, same, same_bytes-refl word) refl }

pub mark_differs : {n : ℕ} {old new : Cursor} (word found : List ℕ) → length word ≡ n → ReadsOk (raw n) old found new → (found ≡ word → ⊥) → ReadsErr (mark word) old old.offset new
mark_differs {n} {old} {new} word found size r other =
    record { bytes = r.bytes; reads = rw (size, r.reads, others_differ word found (same_bytes word found) refl other) refl }

pub mark_short : {n at : ℕ} {old new : Cursor} (word : List ℕ) → length word ≡ n → ReadsErr (raw n) old at new → ReadsErr (mark word) old at new
mark_short {n} {at} {old} {new} word size r = record { bytes = r.bytes; reads = rw (size, r.reads) refl }
