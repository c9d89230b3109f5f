-- What words stand for, and that they call one command at most.
use Rattle.std.proofs.Common.{◌≡◌, ℕ, ◌<◌, ◌≤◌, ◌^◌, Bool, true, false, if◌then◌else◌, List, [], ◌∷◌, Option, Some, refl, sym, ◌∙◌, ap, subst, inl, inr, arith, true≢false}
use Rattle.std.specs.Prelude.{zero, suc, ◌==◌, slice_get}
use Rattle.std.proofs.lemmas.Fmt.{decimal_injective}
use Rattle.std.specs.Fmt.{decimal}
use Rattle.mb_format.specs.Combinators.{same_bytes}
use Rattle.mb_format.proofs.Fields.{same_bytes-refl}
use Rattle.mb_console.specs.declared.words.Kind.{Kind}
use Rattle.mb_console.specs.declared.words.Kind.TheVariants as kind
use Rattle.mb_script.specs.Reading.{IsFill}
use Rattle.mb_console.specs.Words.{Argument, file, numeral, hexadecimal, IsOfKind, IsWordFor, AreWordsFor, Row, IsCalled, IsCall, number_or_zero, number_given, hex_or_none, hex_given}

-- ---- a number

-- a number below the bounds is no number of the kind
pub too_small : (least most : ℕ) (word : List ℕ) (n : ℕ) → most < 2 ^ 32 → (word ≡ decimal n) × (n ≤ most) → n < least
    → (argument : Argument) → IsWordFor (kind.Number least most) word argument → ⊥
too_small least most word n fits is below (file name) other = absurd other.1
too_small least most word n fits is below (numeral m) other =
    let same : n ≡ m = decimal_injective n m (omega (arith, fits, is.1)) (omega (arith, fits, other.1.1)) (sym is.0 ∙ other.0) in
    omega (arith, same, below, other.1.0)
too_small least most word n fits is below (hexadecimal text) other = absurd other.1

-- ---- words stand for one thing

stands_for_one : (k : Kind) (word : List ℕ) (a b : Argument) → IsWordFor k word a → IsWordFor k word b → a ≡ b
stands_for_one kind.File word (file first) (file second) is_first is_second = ap file (sym is_first.0 ∙ is_second.0)
stands_for_one kind.File word (file first) (numeral m) is_first is_second = absurd is_second.1
stands_for_one kind.File word (file first) (hexadecimal other) is_first is_second = absurd is_second.1
stands_for_one kind.File word (numeral n) b is_first is_second = absurd is_first.1
stands_for_one kind.File word (hexadecimal first) b is_first is_second = absurd is_first.1
stands_for_one kind.Hex word (file first) b is_first is_second = absurd is_first.1
stands_for_one kind.Hex word (numeral n) b is_first is_second = absurd is_first.1
stands_for_one kind.Hex word (hexadecimal first) (file second) is_first is_second = absurd is_second.1
stands_for_one kind.Hex word (hexadecimal first) (numeral m) is_first is_second = absurd is_second.1
stands_for_one kind.Hex word (hexadecimal first) (hexadecimal second) is_first is_second = ap hexadecimal (sym is_first.0 ∙ is_second.0)
stands_for_one (kind.Number least most) word (file first) b is_first is_second = absurd is_first.1
stands_for_one (kind.Number least most) word (hexadecimal first) b is_first is_second = absurd is_first.1
stands_for_one (kind.Number least most) word (numeral n) (file second) is_first is_second = absurd is_second.1
stands_for_one (kind.Number least most) word (numeral n) (hexadecimal other) is_first is_second = absurd is_second.1
stands_for_one (kind.Number least most) word (numeral n) (numeral m) is_first is_second =
    ap numeral (decimal_injective n m (omega (arith, is_first.1.2)) (omega (arith, is_second.1.2)) (sym is_first.0 ∙ is_second.0))

stand_for_one : (kinds : List Kind) (words : List (List ℕ)) (a b : List Argument) → AreWordsFor kinds words a → AreWordsFor kinds words b → a ≡ b
stand_for_one [] [] [] [] is_first is_second = refl
stand_for_one [] [] [] (y ∷ ys) is_first is_second = absurd is_second
stand_for_one [] [] (x ∷ xs) b is_first is_second = absurd is_first
stand_for_one [] (word ∷ words) a b is_first is_second = absurd is_first
stand_for_one (k ∷ kinds) [] a b is_first is_second = absurd is_first
stand_for_one (k ∷ kinds) (word ∷ words) [] b is_first is_second = absurd is_first
stand_for_one (k ∷ kinds) (word ∷ words) (x ∷ xs) [] is_first is_second = absurd is_second
stand_for_one (k ∷ kinds) (word ∷ words) (x ∷ xs) (y ∷ ys) is_first is_second =
    let head : x ≡ y = stands_for_one k word x y is_first.0 is_second.0 in
    let tail : xs ≡ ys = stand_for_one kinds words xs ys is_first.1 is_second.1 in
    cc

called_once : (name : List ℕ) (kinds : List Kind) (words : List (List ℕ)) (a b : List Argument) → IsCalled name kinds words a → IsCalled name kinds words b → a ≡ b
called_once name kinds [] a b is_first is_second = absurd is_first
called_once name kinds (first ∷ words) a b is_first is_second = stand_for_one kinds words a b is_first.1 is_second.1

-- ---- words call one command

-- whether no row has this name
abbrev pub lacks_name : {C : Type 0} → List ℕ → List (Row C) → Bool
lacks_name name [] = true
lacks_name name (row ∷ rows) = if same_bytes row.1 name then false else lacks_name name rows

-- whether no two rows have one name
abbrev pub has_distinct_names : {C : Type 0} → List (Row C) → Bool
has_distinct_names [] = true
has_distinct_names (row ∷ rows) = if lacks_name row.1 rows then has_distinct_names rows else false

both_true : (a b : Bool) → (if a then b else false) ≡ true → (a ≡ true) × (b ≡ true)
both_true true b is = (refl, is)
both_true false b is = absurd (true≢false (sym is))

name_of_call : (name : List ℕ) (kinds : List Kind) (words : List (List ℕ)) (arguments : List Argument) (other : List ℕ) (others : List Kind) (more : List Argument)
    → IsCalled name kinds words arguments → IsCalled other others words more → name ≡ other
name_of_call name kinds [] arguments other others more is_first is_second = absurd is_first
name_of_call name kinds (first ∷ words) arguments other others more is_first is_second = sym is_first.0 ∙ is_second.0

lacked : {C : Type 0} (name : List ℕ) (kinds : List Kind) (rows : List (Row C)) (words : List (List ℕ)) (arguments : List Argument) (command : C) (more : List Argument)
    → lacks_name name rows ≡ true → IsCalled name kinds words arguments → IsCall rows words command more → ⊥
lacked name kinds [] words arguments command more lacks called call = call
lacked name kinds (row ∷ rows) words arguments command more lacks called (inl is) =
    let same : name ≡ row.1 = name_of_call name kinds words arguments row.1 row.2 more called is.1 in
    let found : same_bytes row.1 name ≡ true = subst (λ n. same_bytes row.1 n ≡ true) (sym same) (same_bytes-refl row.1) in
    true≢false (sym lacks ∙ ap (λ (b : Bool). if b then false else lacks_name name rows) found)
lacked name kinds (row ∷ rows) words arguments command more lacks called (inr is) =
    lacked name kinds rows words arguments command more (later (same_bytes row.1 name) (lacks_name name rows) lacks) called is
  where
    later : (a b : Bool) → (if a then false else b) ≡ true → b ≡ true
    later true b is = absurd (true≢false (sym is))
    later false b is = is

pub one_call : {C : Type 0} (rows : List (Row C)) (words : List (List ℕ)) (first second : C) (a b : List Argument) → has_distinct_names rows ≡ true
    → IsCall rows words first a → IsCall rows words second b → (first ≡ second) × (a ≡ b)
one_call [] words first second a b distinct is_first is_second = absurd is_first
one_call (row ∷ rows) words first second a b distinct (inl is_first) (inl is_second) =
    (sym is_first.0 ∙ is_second.0, called_once row.1 row.2 words a b is_first.1 is_second.1)
one_call (row ∷ rows) words first second a b distinct (inl is_first) (inr is_second) =
    absurd (lacked row.1 row.2 rows words a second b (both_true (lacks_name row.1 rows) (has_distinct_names rows) distinct).0 is_first.1 is_second)
one_call (row ∷ rows) words first second a b distinct (inr is_first) (inl is_second) =
    absurd (lacked row.1 row.2 rows words b first a (both_true (lacks_name row.1 rows) (has_distinct_names rows) distinct).0 is_second.1 is_first)
one_call (row ∷ rows) words first second a b distinct (inr is_first) (inr is_second) =
    one_call rows words first second a b (both_true (lacks_name row.1 rows) (has_distinct_names rows) distinct).1 is_first is_second

-- ---- the row of a call

-- whether all rows pass a test
abbrev pub all_rows : {C : Type 0} → (Row C → Bool) → List (Row C) → Bool
all_rows test [] = true
all_rows test (row ∷ rows) = if test row then all_rows test rows else false

-- a row that passes the test
pub record IsCalledBy {C : Type 0} (test : Row C → Bool) (words : List (List ℕ)) (command : C) (arguments : List Argument) : Type 0 where
  pub row : Row C
  pub passes : test row ≡ true
  pub command_is : row.0 ≡ command
  pub called : IsCalled row.1 row.2 words arguments

pub row_of_call : {C : Type 0} (test : Row C → Bool) (rows : List (Row C)) (words : List (List ℕ)) (command : C) (arguments : List Argument)
    → all_rows test rows ≡ true → IsCall rows words command arguments → IsCalledBy test words command arguments
row_of_call test [] words command arguments all call = absurd call
row_of_call test (row ∷ rows) words command arguments all (inl is) =
    record { row = row; passes = (both_true (test row) (all_rows test rows) all).0; command_is = is.0; called = is.1 }
row_of_call test (row ∷ rows) words command arguments all (inr is) =
    row_of_call test rows words command arguments (both_true (test row) (all_rows test rows) all).1 is

-- ---- an argument by its place

-- whether the word at this place, from 0, is of a kind that passes a test
abbrev pub is_kind_at : (Kind → Bool) → ℕ → List Kind → Bool
is_kind_at test place [] = false
is_kind_at test zero (first ∷ kinds) = test first
is_kind_at test (suc place) (first ∷ kinds) = is_kind_at test place kinds

-- what stands at a place is of a kind that passes a test
pub record HasKindAt (test : Kind → Bool) (place : ℕ) (given : List Argument) : Type 0 where
  pub kind : Kind
  pub passes : test kind ≡ true
  pub argument : Argument
  pub at_place : slice_get given place ≡ Some argument
  pub of_kind : IsOfKind kind argument

kind_at : (test : Kind → Bool) (place : ℕ) (kinds : List Kind) (words : List (List ℕ)) (given : List Argument)
    → is_kind_at test place kinds ≡ true → AreWordsFor kinds words given → HasKindAt test place given
kind_at test place [] words given passes are = absurd (true≢false (sym passes))
kind_at test place (first ∷ kinds) [] given passes are = absurd are
kind_at test place (first ∷ kinds) (word ∷ words) [] passes are = absurd are
kind_at test zero (first ∷ kinds) (word ∷ words) (argument ∷ given) passes are =
    record { kind = first; passes = passes; argument = argument; at_place = refl; of_kind = are.0.1 }
kind_at test (suc place) (first ∷ kinds) (word ∷ words) (argument ∷ given) passes are =
    let later = kind_at test place kinds words given passes are.1 in
    record { kind = later.kind; passes = later.passes; argument = later.argument; at_place = later.at_place; of_kind = later.of_kind }

-- Where the rows of some commands have such a kind at a place, so have their calls.
kind_of_call : {C : Type 0} (some : C → Bool) (test : Kind → Bool) (place : ℕ) (rows : List (Row C)) (words : List (List ℕ)) (command : C) (given : List Argument)
    → all_rows (λ row. if some row.0 then is_kind_at test place row.2 else true) rows ≡ true → some command ≡ true → IsCall rows words command given
    → HasKindAt test place given
kind_of_call some test place [] words command given all is call = absurd call
kind_of_call some test place (row ∷ rows) [] command given all is (inl called) = absurd called.1
kind_of_call some test place (row ∷ rows) (first ∷ words) command given all is (inl called) =
    let passes = (both_true (if some row.0 then is_kind_at test place row.2 else true) _ all).0 in
    let has : is_kind_at test place row.2 ≡ true = subst (λ (b : Bool). (if b then is_kind_at test place row.2 else true) ≡ true) (ap some called.0 ∙ is) passes in
    kind_at test place row.2 words given has called.1.1
kind_of_call some test place (row ∷ rows) words command given all is (inr called) =
    let later = (both_true (if some row.0 then is_kind_at test place row.2 else true) _ all).1 in
    kind_of_call some test place rows words command given later is called

-- ---- numbers

-- whether the words of a kind are the numbers between these bounds
abbrev pub is_bounded : ℕ → ℕ → Kind → Bool
is_bounded least most kind.File = false
is_bounded least most (kind.Number low high) = if low == least then high == most else false
is_bounded least most kind.Hex = false

both_bounds : (low high least most : ℕ) → (if low == least then high == most else false) ≡ true → (low ≡ least) × (high ≡ most)
both_bounds low high least most is = (grind (arith, is), grind (arith, is))

within_bounds : (least most : ℕ) (k : Kind) (argument : Argument) → is_bounded least most k ≡ true → IsOfKind k argument
    → (least ≤ number_or_zero (Some argument)) × (number_or_zero (Some argument) ≤ most)
within_bounds least most kind.File argument bounded is = absurd (true≢false (sym bounded))
within_bounds least most kind.Hex argument bounded is = absurd (true≢false (sym bounded))
within_bounds least most (kind.Number low high) (file name) bounded is = absurd is
within_bounds least most (kind.Number low high) (hexadecimal word) bounded is = absurd is
within_bounds least most (kind.Number low high) (numeral n) bounded is =
    let same = both_bounds low high least most bounded in
    (omega (arith, same.0, is.0), omega (arith, same.1, is.1))

-- Where the rows of some commands have a number between these bounds at a place, so have their calls.
pub number_of_call : {C : Type 0} (some : C → Bool) (place least most : ℕ) (rows : List (Row C)) (words : List (List ℕ)) (command : C) (given : List Argument)
    → all_rows (λ row. if some row.0 then is_kind_at (is_bounded least most) place row.2 else true) rows ≡ true → some command ≡ true → IsCall rows words command given
    → (least ≤ number_given place given) × (number_given place given ≤ most)
number_of_call some place least most rows words command given all is call =
    let has = kind_of_call some (is_bounded least most) place rows words command given all is call in
    subst (λ (o : Option Argument). (least ≤ number_or_zero o) × (number_or_zero o ≤ most)) (sym has.at_place)
    (within_bounds least most has.kind has.argument has.passes has.of_kind)

-- ---- bytes

-- whether the words of a kind are bytes in hexadecimal
abbrev pub is_hex : Kind → Bool
is_hex kind.File = false
is_hex (kind.Number least most) = false
is_hex kind.Hex = true

hex_within : (k : Kind) (argument : Argument) → is_hex k ≡ true → IsOfKind k argument → (bytes : List ℕ) × IsFill (hex_or_none (Some argument)) bytes
hex_within kind.File argument hex is = absurd (true≢false (sym hex))
hex_within (kind.Number least most) argument hex is = absurd (true≢false (sym hex))
hex_within kind.Hex (file name) hex is = absurd is
hex_within kind.Hex (numeral n) hex is = absurd is
hex_within kind.Hex (hexadecimal word) hex is = is

-- Where the rows of some commands have bytes in hexadecimal at a place, so have their calls.
pub hex_of_call : {C : Type 0} (some : C → Bool) (place : ℕ) (rows : List (Row C)) (words : List (List ℕ)) (command : C) (given : List Argument)
    → all_rows (λ row. if some row.0 then is_kind_at is_hex place row.2 else true) rows ≡ true → some command ≡ true → IsCall rows words command given
    → (bytes : List ℕ) × IsFill (hex_given place given) bytes
hex_of_call some place rows words command given all is call =
    let has = kind_of_call some is_hex place rows words command given all is call in
    subst (λ (o : Option Argument). (bytes : List ℕ) × IsFill (hex_or_none o) bytes) (sym has.at_place)
    (hex_within has.kind has.argument has.passes has.of_kind)
