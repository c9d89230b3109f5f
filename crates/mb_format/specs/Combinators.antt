-- Formats and how they are composed: single fields, one format after another, choices, options and lists. Each says
-- first what it means (spelling, what is allowed, where it fails) and last how it is read (Reading.antt).
use Rattle.std.specs.Prelude.{◌≡◌, ℕ, zero, suc, ◌^◌, ◌<◌, ◌≤◌, ◌==◌, nat_lt, Bool, true, false, IsTrue, if◌then◌else◌}
use Rattle.std.specs.Prelude.{List, [], ◌∷◌, ◌++◌, length, Option, Some, None, Result, Ok}
use Rattle.std.specs.Int.{Width, w8, byte_len, to_be_bytes}
use Rattle.std.specs.Option.{is_some}
use Rattle.mb_format.specs.Format.{Format, SpelledAt}
use Rattle.mb_format.specs.Reading.{raw_at, number_at, decode_read, then_read, into_read}

-- ---- what fields and compositions mean

-- a single field fails at its beginning, exactly if no allowed value is spelled there
pub record FailsHere {A : Type 0} (spelling : A → List ℕ) (Allowed : A → Type 0)
    (bytes : List ℕ) (at offset : ℕ) : Type 0 where
  pub here : offset ≡ at
  pub none : (a : A) (after : ℕ) → SpelledAt spelling Allowed bytes at a after → ⊥

-- one format after another fails: the first does, or a value of the first is spelled and the second fails after it
pub data FailsInBoth {A B : Type 0} (f : Format A) (g : A → Format B) (bytes : List ℕ) (at offset : ℕ) : Type 0 where
  in_first : f.FailsAt bytes at offset → FailsInBoth f g bytes at offset
  in_second : (a : A) (middle : ℕ) → SpelledAt f.spelling f.Allowed bytes at a middle
      → (g a).FailsAt bytes middle offset → FailsInBoth f g bytes at offset

-- the spelling of what a value was made from; no bytes if it was made from nothing
abbrev pub spelling_of : {A : Type 0} → Format A → Option A → List ℕ
spelling_of f (Some a) = f.spelling a
spelling_of f None = []

-- a value was made from something, and that is allowed
abbrev pub AllowedOf : {A : Type 0} → Format A → Option A → Type 0
AllowedOf f (Some a) = f.Allowed a
AllowedOf f None = ⊥

-- ---- single fields

abbrev pub field : {A : Type 0} → (A → List ℕ) → (A → Type 0) → (List ℕ → ℕ → Result (A × ℕ) ℕ) → Format A
field spelling Allowed reads = record {
  spelling = spelling;
  Allowed = Allowed;
  FailsAt = FailsHere spelling Allowed;
  reads = reads;
}

-- n arbitrary bytes
abbrev pub raw : ℕ → Format (List ℕ)
raw n = field (λ bytes. bytes) (λ bytes. length bytes ≡ n) (raw_at n)

-- the numbers of a width are those below this
abbrev pub limit : Width → ℕ
limit w = 256 ^ byte_len w

-- a number as bytes, big-endian
unfoldable pub number_bytes : Width → ℕ → List ℕ
number_bytes w n = to_be_bytes w n

-- any number of a width
abbrev pub number : Width → Format ℕ
number w = field (number_bytes w) (λ n. n < limit w) (number_at w)

-- A field that encodes a value: `code` gives what is written for a value. `decode` is its other direction, and is used
-- for reading.
abbrev pub decoded : {N A : Type 0} → Format N → (A → N) → (A → Type 0) → (N → Option A) → Format A
decoded f code Allowed decode =
    field (λ a. f.spelling (code a)) Allowed (λ bytes at. decode_read decode at (f.reads bytes at))

-- a number that encodes a value
abbrev pub coded : {A : Type 0} → Width → (A → ℕ) → (A → Type 0) → (ℕ → Option A) → Format A
coded w code Allowed decode = decoded (number w) code Allowed decode

abbrev pub in_range : ℕ → ℕ → ℕ → Option ℕ
in_range least most n = if nat_lt n least then None else if nat_lt most n then None else Some n

-- a number from `least` to `most`
abbrev pub between : Width → ℕ → ℕ → Format ℕ
between w least most = coded w (λ n. n) (λ n. (least ≤ n) × (n ≤ most)) (in_range least most)

-- the value in the row of a number
abbrev pub row_of : {A : Type 0} → List (ℕ × A) → ℕ → Option A
row_of [] n = None
row_of (row ∷ rows) n = if n == row.0 then Some row.1 else row_of rows n

-- a number that encodes a value, with a table of the value for each number
abbrev pub table : {A : Type 0} → Width → List (ℕ × A) → (A → ℕ) → Format A
table w rows code = coded w code (λ a. Unit {0}) (row_of rows)

-- a number with a table of values; a value is allowed exactly if the row of its number has it
abbrev pub listed : {A : Type 0} → Width → List (ℕ × A) → (A → ℕ) → Format A
listed w rows code = coded w code (λ a. row_of rows (code a) ≡ Some a) (row_of rows)

abbrev pub test_of : (List ℕ → Bool) → List ℕ → Option (List ℕ)
test_of test bytes = if test bytes then Some bytes else None

-- n bytes that meet a test, as one field
abbrev pub raw_that : (List ℕ → Bool) → ℕ → Format (List ℕ)
raw_that test n = decoded (raw n) (λ bytes. bytes) (λ bytes. (length bytes ≡ n) × IsTrue (test bytes)) (test_of test)

-- whether two lists of numbers are the same
abbrev pub same_bytes : List ℕ → List ℕ → Bool
same_bytes [] [] = true
same_bytes (x ∷ xs) (y ∷ ys) = if x == y then same_bytes xs ys else false
same_bytes _ _ = false

abbrev pub mark_of : List ℕ → List ℕ → Option (Unit {0})
mark_of word bytes = if same_bytes word bytes then Some tt else None

-- these bytes and no others, as one field: a version or a magic word
abbrev pub mark : List ℕ → Format (Unit {0})
mark word = decoded (raw (length word)) (λ u. word) (λ u. Unit {0}) (mark_of word)

-- no bytes, for this one value
abbrev pub nothing : {A : Type 0} → A → Format A
nothing a = record {
  spelling = λ b. [];
  Allowed = λ b. b ≡ a;
  FailsAt = λ bytes at offset. ⊥;
  reads = λ bytes at. Ok (a, at);
}

-- ---- one format after another

-- one format, and after it one that may depend on the value of the first
abbrev pub both : {A B : Type 0} → Format A → (A → Format B) → Format (A × B)
both f g = record {
  spelling = λ p. f.spelling p.0 ++ (g p.0).spelling p.1;
  Allowed = λ p. f.Allowed p.0 × (g p.0).Allowed p.1;
  FailsAt = FailsInBoth f g;
  reads = λ bytes at. then_read (f.reads bytes at) (λ a middle. (g a).reads bytes middle);
}

-- one format after another
abbrev pub pair : {A B : Type 0} → Format A → Format B → Format (A × B)
pair f g = both f (λ a. g)

-- ---- values made from what was read

-- A value that `into` makes from what was read. `out` takes a value apart again, if it is one that can be so made;
-- `out` alone says how a value is spelled and whether it is allowed.
abbrev pub as_value : {A B : Type 0} → Format A → (A → B) → (B → Option A) → Format B
as_value f into out = record {
  spelling = λ b. spelling_of f (out b);
  Allowed = λ b. AllowedOf f (out b);
  FailsAt = f.FailsAt;
  reads = λ bytes at. into_read into (f.reads bytes at);
}

-- a value that is made from what was read, if every value can be so made, as a struct is made from its fields
abbrev pub as_record : {A B : Type 0} → Format A → (A → B) → (B → A) → Format B
as_record f into parts = as_value f into (λ b. Some (parts b))

-- A leading field that is a function of the value, such as a tag, a flag, a length or a count; the format after it
-- depends on the field.
abbrev pub led : {K B : Type 0} → Format K → (B → K) → (K → Format B) → Format B
led f key g = as_record (both f g) (λ p. p.1) (λ b. (key b, b))

-- a field that has one value, and after it the value
abbrev pub then_value : {B : Type 0} → Format (Unit {0}) → Format B → Format B
then_value f g = as_record (pair f g) (λ p. p.1) (λ b. (tt, b))

-- ---- choices and options

-- the first format if the flag is true, else the second
abbrev pub either : {A : Type 0} → Bool → Format A → Format A → Format A
either true f g = f
either false f g = g

abbrev pub flag_rows : List (ℕ × Bool)
flag_rows = (0, false) ∷ (1, true) ∷ []

abbrev pub flag_byte : Bool → ℕ
flag_byte false = 0
flag_byte true = 1

-- a byte that is 0 or 1
abbrev pub flag : Format Bool
flag = table w8 flag_rows flag_byte

-- an optional value that is there
abbrev pub present : {A : Type 0} → Format A → Format (Option A)
present f = as_value f Some (λ o. o)

-- a flag, and the value if it is 1
abbrev pub optional : {A : Type 0} → Format A → Format (Option A)
optional f = led flag is_some (λ there. either there (present f) (nothing None))

-- ---- lists

abbrev pub cons : {A : Type 0} → A × List A → List A
cons p = p.0 ∷ p.1

abbrev pub uncons : {A : Type 0} → List A → Option (A × List A)
uncons [] = None
uncons (x ∷ xs) = Some (x, xs)

-- n items, where the format of each depends on a state that each item changes for the next
unfoldable pub items : {A S : Type 0} → (S → Format A) → (S → A → S) → ℕ → S → Format (List A)
items item next zero state = nothing []
items item next (suc n) state = as_value (both (item state) (λ a. items item next n (next state a))) cons uncons

-- n items of one format
abbrev pub times : {A : Type 0} → ℕ → Format A → Format (List A)
times n item = items (λ (u : Unit {0}). item) (λ u a. u) n tt

-- a number, and that many bytes
abbrev pub sized : Format ℕ → Format (List ℕ)
sized f = led f length raw

-- a number, and that many bytes that meet a test
abbrev pub sized_that : (List ℕ → Bool) → Format ℕ → Format (List ℕ)
sized_that test f = led f length (raw_that test)

-- a number, and that many items
abbrev pub counted : {A : Type 0} → Format ℕ → Format A → Format (List A)
counted f item = led f length (λ n. times n item)
