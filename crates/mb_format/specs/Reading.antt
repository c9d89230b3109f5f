-- How formats are read by functions, and what it means that these are right. What a format means does not rest on them:
-- that a format is clear and short is said without them, and so is what a reader gives to those who call it.
use Rattle.std.specs.Prelude.{◌≡◌, ℕ, ◌+◌, ◌≤◌, List, length, take, drop, nat_lt, if◌then◌else◌}
use Rattle.std.specs.Prelude.{Option, Some, None, Result, Ok, Err}
use Rattle.std.specs.Int.{Width, byte_len, from_be_bytes}
use Rattle.mb_format.specs.Format.{IsBytes, IsOffset, SpelledAt, Format, Spells, FailsWhole}

-- ---- at an offset

-- reading finds exactly the value that is spelled, or else exactly the offset that fails
pub record IsExact {A : Type 0} (f : Format A) : Type 0 where
  pub found : (bytes : List ℕ) (at : ℕ) (a : A) (after : ℕ) → IsOffset bytes at
      → f.reads bytes at ≡ Ok (a, after) → SpelledAt f.spelling f.Allowed bytes at a after
  pub finds : (bytes : List ℕ) (at : ℕ) (a : A) (after : ℕ) → IsOffset bytes at
      → SpelledAt f.spelling f.Allowed bytes at a after → f.reads bytes at ≡ Ok (a, after)
  pub fails : (bytes : List ℕ) (at offset : ℕ) → IsOffset bytes at
      → f.reads bytes at ≡ Err offset → f.FailsAt bytes at offset
  pub failed : (bytes : List ℕ) (at offset : ℕ) → IsOffset bytes at
      → f.FailsAt bytes at offset → f.reads bytes at ≡ Err offset

-- the offset after what was read, or the offset that fails
abbrev pub offset_of : {A : Type 0} → Result (A × ℕ) ℕ → ℕ
offset_of (Ok r) = r.1
offset_of (Err offset) = offset

-- reading depends only on the first n bytes from the offset on, and goes no further than these
pub record IsLocal {A : Type 0} (f : Format A) (n : ℕ) : Type 0 where
  pub same : (bytes : List ℕ) (at m : ℕ) → IsOffset bytes at → at + n ≤ m
      → f.reads (take m bytes) at ≡ f.reads bytes at
  pub near : (bytes : List ℕ) (at : ℕ) → IsOffset bytes at → offset_of (f.reads bytes at) ≤ at + n

-- ---- as a whole

abbrev pub all_read : {A : Type 0} → ℕ → Result (A × ℕ) ℕ → Result A ℕ
all_read size (Ok r) = if nat_lt r.1 size then Err r.1 else Ok r.0
all_read size (Err offset) = Err offset

-- the value that the whole of the bytes spells, or the failing offset
abbrev pub reads_whole : {A : Type 0} → Format A → List ℕ → Result A ℕ
reads_whole f bytes = all_read (length bytes) (f.reads bytes 0)

-- reading bytes as a whole finds exactly the value that they spell, or else exactly the offset that fails
pub record IsExactWhole {A : Type 0} (f : Format A) : Type 0 where
  pub found : (bytes : List ℕ) (a : A) → IsBytes bytes → reads_whole f bytes ≡ Ok a → Spells f bytes a
  pub finds : (bytes : List ℕ) (a : A) → IsBytes bytes → Spells f bytes a → reads_whole f bytes ≡ Ok a
  pub fails : (bytes : List ℕ) (offset : ℕ) → IsBytes bytes
      → reads_whole f bytes ≡ Err offset → FailsWhole f bytes offset
  pub failed : (bytes : List ℕ) (offset : ℕ) → IsBytes bytes
      → FailsWhole f bytes offset → reads_whole f bytes ≡ Err offset

-- ---- parts of the reading of fields and compositions

-- n bytes at an offset
unfoldable pub raw_at : ℕ → List ℕ → ℕ → Result (List ℕ × ℕ) ℕ
raw_at n bytes at = if nat_lt (length bytes) (at + n) then Err at else Ok (take n (drop at bytes), at + n)

-- the number at an offset
unfoldable pub number_at : Width → List ℕ → ℕ → Result (ℕ × ℕ) ℕ
number_at w bytes at =
    if nat_lt (length bytes) (at + byte_len w) then Err at
    else Ok (from_be_bytes w (take (byte_len w) (drop at bytes)), at + byte_len w)

-- the value that a field encodes; if it encodes none, the field fails
abbrev pub stood_for : {A : Type 0} → ℕ → ℕ → Option A → Result (A × ℕ) ℕ
stood_for at after (Some a) = Ok (a, after)
stood_for at after None = Err at

-- a field was read, and is then decoded
abbrev pub decode_read : {N A : Type 0} → (N → Option A) → ℕ → Result (N × ℕ) ℕ → Result (A × ℕ) ℕ
decode_read decode at (Ok r) = stood_for at r.1 (decode r.0)
decode_read decode at (Err offset) = Err offset

-- the second value was read after the first
abbrev pub with_first : {A B : Type 0} → A → Result (B × ℕ) ℕ → Result ((A × B) × ℕ) ℕ
with_first a (Ok r) = Ok ((a, r.0), r.1)
with_first a (Err offset) = Err offset

-- the first value was read, and the second is read after it
abbrev pub then_read : {A B : Type 0} → Result (A × ℕ) ℕ → (A → ℕ → Result (B × ℕ) ℕ) → Result ((A × B) × ℕ) ℕ
then_read (Ok r) rest = with_first r.0 (rest r.0 r.1)
then_read (Err offset) rest = Err offset

-- a value is made from what was read
abbrev pub into_read : {A B : Type 0} → (A → B) → Result (A × ℕ) ℕ → Result (B × ℕ) ℕ
into_read into (Ok r) = Ok (into r.0, r.1)
into_read into (Err offset) = Err offset
