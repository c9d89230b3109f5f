-- Parts of a line: what a word is, and what was not found.
use Rattle.std.proofs.Common.{◌≡◌, ℕ, ◌<◌, inl, inr, List, ◌++◌, length, take, drop, refl, sym, ap, subst, ◌∙◌, arith, Bool, true, false, eqb}
use Rattle.std.specs.Prelude.{Result, Ok, Err, MatchResult}
use Rattle.std.specs.Cmp.Lexicographic.{pointwise}
use Rattle.std.proofs.lemmas.Bool.Decides.{Decides-eqb}
use Rattle.std.proofs.lemmas.Slice.Eq.{slice_eq-Decides}
use Rattle.std.proofs.lemmas.List.{take-append-drop}
use Rattle.std.proofs.Math.Seq.{take-append_seam}
use Rattle.hex.specs.Hex.{decode_sized}
use Rattle.hex.specs.declared.error.FromHexError.{FromHexError}
use Rattle.hex.proofs.HexLemmas.{decode_of-ok, decode_sized-twice}
use Rattle.mb_model.specs.outside.Texts.{IsHex}
use Rattle.mb_words.specs.declared.said.NotSaid.{NotSaid}
use Rattle.mb_words.specs.declared.said.NotSaid.TheVariants as why
use Rattle.mb_words.specs.Words.{Finds}

pub clash : (answer : Bool) → answer ≡ true → answer ≡ false → ⊥
clash answer is isnt = cc

-- ---- what a line begins with

pub begins : (line word rest : List ℕ) → pointwise eqb (take (length word) line) word ≡ true → rest ≡ drop (length word) line → line ≡ word ++ rest
begins line word rest is remaining =
    let front = (slice_eq-Decides Decides-eqb (take (length word) line) word _ refl).0 is in
    sym (take-append-drop (length word) line) ∙ ap (λ (x : List ℕ). x ++ drop (length word) line) front ∙ ap (λ (x : List ℕ). word ++ x) (sym remaining)

pub begins_not : (line word rest : List ℕ) → pointwise eqb (take (length word) line) word ≡ false → line ≡ word ++ rest → ⊥
begins_not line word rest isnt e =
    let front = ap (λ (x : List ℕ). take (length word) x) e ∙ take-append_seam word rest in
    clash _ ((slice_eq-Decides Decides-eqb (take (length word) line) word _ refl).1 front) isnt

-- whether two words are one
pub same : (word text slice : List ℕ) (answer : Bool) → answer ≡ pointwise eqb word slice → slice ≡ text → answer ≡ true → word ≡ text
same word text slice answer is e holds = (slice_eq-Decides Decides-eqb word slice answer is).0 holds ∙ e

pub differs : (word text slice : List ℕ) (answer : Bool) → answer ≡ pointwise eqb word slice → slice ≡ text → answer ≡ false → word ≡ text → ⊥
differs word text slice answer is e fails was = clash answer ((slice_eq-Decides Decides-eqb word slice answer is).1 (was ∙ sym e)) fails

-- ---- hexadecimal words

pub array_none : (word bytes out : List ℕ) (n m : ℕ) (r : Result (Unit {0}) FromHexError) (e : FromHexError) → r ≡ Err e → 0 < n → m ≡ n
    → MatchResult (decode_sized word m) (λ read. (r ≡ Ok tt) × (out ≡ read)) (λ f. r ≡ Err f)
    → length bytes ≡ n → IsHex word bytes → ⊥
array_none word bytes out n m r e was some room gives sized (inl dash) = omega (arith, some, sized, ap length dash.1)
array_none word bytes out n m r e was some room gives sized (inr digits) =
    let twice = (decode_of-ok word bytes digits.1).2 in
    let read = decode_sized-twice word m (omega (arith, twice, sized, room)) ∙ digits.1 in
    let found = subst (λ (x : Result (List ℕ) FromHexError). MatchResult x (λ (y : List ℕ). (r ≡ Ok tt) × (out ≡ y)) (λ (f : FromHexError). r ≡ Err f)) read gives in
    let wrong = found.0 in
    cc

-- ---- an error that is passed on

passed_at : {A B : Type 0} (Is : A → Type 0) (Was : B → Type 0) (e : NotSaid) → ((a : A) → Is a → (b : B) × Was b) → Finds {A = B} Was (Err e) → Finds {A = A} Is (Err e)
passed_at {A} {B} Is Was why.Form back found = λ a is. let b = back a is in found b.0 b.1
passed_at {A} {B} Is Was why.NoMemory back found = tt

-- where a part is not read, the whole is not
pub passed : {A B : Type 0} (Is : A → Type 0) (Was : B → Type 0) (r : Result A NotSaid) (e f : NotSaid) → r ≡ Err f → f ≡ e
    → ((a : A) → Is a → (b : B) × Was b) → Finds {A = B} Was (Err e) → Finds Is r
passed {A} {B} Is Was r e f was same_error back found =
    let whole : r ≡ Err e = cc in
    subst (λ (x : Result A NotSaid). Finds Is x) (sym whole) (passed_at {A = A} {B = B} Is Was e back found)
