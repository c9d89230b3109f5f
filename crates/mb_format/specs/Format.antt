-- What a binary format is: which bytes spell a value, and at which offset bytes fail if they spell none. How a format
-- is read is in Reading.antt, and is no part of what a format means.
use Rattle.std.specs.Prelude.{◌≡◌, ℕ, ◌+◌, ◌<◌, ◌≤◌, ◌⊎◌, List, ◌++◌, length, get_or, drop, Result}

-- each number of the list is a byte
abbrev pub IsBytes : List ℕ → Type 0
IsBytes bytes = (i : ℕ) → get_or bytes i 0 < 256

-- an offset in a list of bytes, from 0 up to its length
pub record IsOffset (bytes : List ℕ) (at : ℕ) : Type 0 where
  pub are_bytes : IsBytes bytes
  pub within : at ≤ length bytes

-- a value that is allowed is spelled at an offset, and its spelling ends before the offset `after`
pub record SpelledAt {A : Type 0} (spelling : A → List ℕ) (Allowed : A → Type 0)
    (bytes : List ℕ) (at : ℕ) (a : A) (after : ℕ) : Type 0 where
  pub allowed : Allowed a
  pub here : drop at bytes ≡ spelling a ++ drop after bytes
  pub ends : after ≡ at + length (spelling a)
  pub within : after ≤ length bytes

-- A format of values: how each is spelled, which are allowed, and at which offset bytes fail if they spell no allowed
-- value from a start on. `FailsAt bytes start offset` speaks of spellings alone. These three are what a format means.
-- `reads` computes the value and the offset after it, or the failing offset: nothing here speaks of it, and the law
-- `IsExact` of Reading.antt ties it to the three.
pub record Format (A : Type 0) : Type 1 where
  pub spelling : A → List ℕ
  pub Allowed : A → Type 0
  pub FailsAt : List ℕ → ℕ → ℕ → Type 0
  pub reads : List ℕ → ℕ → Result (A × ℕ) ℕ

-- ---- at an offset

-- some value is spelled at the offset
pub record SpellsSome {A : Type 0} (f : Format A) (bytes : List ℕ) (at : ℕ) : Type 0 where
  pub value : A
  pub after : ℕ
  pub spelled : SpelledAt f.spelling f.Allowed bytes at value after

-- some offset fails
pub record FailsSomewhere {A : Type 0} (f : Format A) (bytes : List ℕ) (at : ℕ) : Type 0 where
  pub offset : ℕ
  pub fails : f.FailsAt bytes at offset

-- At each offset of arbitrary bytes one value is spelled or one offset fails: never two of either, never both, always
-- one.
pub record IsClear {A : Type 0} (f : Format A) : Type 0 where
  pub one_value : (bytes : List ℕ) (at : ℕ) (a b : A) (m n : ℕ) → IsOffset bytes at
      → SpelledAt f.spelling f.Allowed bytes at a m → SpelledAt f.spelling f.Allowed bytes at b n → (a ≡ b) × (m ≡ n)
  pub one_offset : (bytes : List ℕ) (at p q : ℕ) → IsOffset bytes at
      → f.FailsAt bytes at p → f.FailsAt bytes at q → p ≡ q
  pub never_both : (bytes : List ℕ) (at : ℕ) (a : A) (m p : ℕ) → IsOffset bytes at
      → SpelledAt f.spelling f.Allowed bytes at a m → f.FailsAt bytes at p → ⊥
  pub always : (bytes : List ℕ) (at : ℕ) → IsOffset bytes at → SpellsSome f bytes at ⊎ FailsSomewhere f bytes at

-- no allowed value has a spelling of more than n bytes
pub record IsShort {A : Type 0} (f : Format A) (n : ℕ) : Type 0 where
  pub short : (a : A) → f.Allowed a → length (f.spelling a) ≤ n

-- ---- as a whole

-- the whole of the bytes spells the value
pub record Spells {A : Type 0} (f : Format A) (bytes : List ℕ) (a : A) : Type 0 where
  pub allowed : f.Allowed a
  pub whole : bytes ≡ f.spelling a

-- a value is spelled at the beginning, and bytes are left after it: the first of them fails
pub record LeavesBytes {A : Type 0} (f : Format A) (bytes : List ℕ) (offset : ℕ) : Type 0 where
  pub value : A
  pub spelled : SpelledAt f.spelling f.Allowed bytes 0 value offset
  pub left : offset < length bytes

-- The bytes as a whole fail at an offset: where they fail from their beginning on, or else at the first byte left.
abbrev pub FailsWhole : {A : Type 0} → Format A → List ℕ → ℕ → Type 0
FailsWhole f bytes offset = f.FailsAt bytes 0 offset ⊎ LeavesBytes f bytes offset

-- some value is spelled by the whole of the bytes
pub record SpellsSomeWhole {A : Type 0} (f : Format A) (bytes : List ℕ) : Type 0 where
  pub value : A
  pub spelled : Spells f bytes value

-- the bytes as a whole fail at some offset
pub record FailsWholeSomewhere {A : Type 0} (f : Format A) (bytes : List ℕ) : Type 0 where
  pub offset : ℕ
  pub fails : FailsWhole f bytes offset

-- Bytes as a whole spell one value, or fail at one offset: never two of either, never both, always one.
pub record IsClearWhole {A : Type 0} (f : Format A) : Type 0 where
  pub one_value : (bytes : List ℕ) (a b : A) → IsBytes bytes → Spells f bytes a → Spells f bytes b → a ≡ b
  pub one_offset : (bytes : List ℕ) (p q : ℕ) → IsBytes bytes → FailsWhole f bytes p → FailsWhole f bytes q → p ≡ q
  pub never_both : (bytes : List ℕ) (a : A) (p : ℕ) → IsBytes bytes → Spells f bytes a → FailsWhole f bytes p → ⊥
  pub always : (bytes : List ℕ) → IsBytes bytes → SpellsSomeWhole f bytes ⊎ FailsWholeSomewhere f bytes
