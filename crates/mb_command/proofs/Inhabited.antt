-- Formats of which some value is allowed.
use Rattle.std.proofs.Common.{◌≡◌, ℕ, zero, suc, Bool, true, false, cond, ltb, List, [], ◌∷◌, replicate, Option, Some, refl, ap, arith}
use Rattle.std.proofs.lemmas.Bool.{ltb-true}
use Rattle.std.proofs.lemmas.List.{length-replicate}
use Rattle.mb_format.specs.Format.{IsBytes, Format}
use Rattle.mb_format.specs.Combinators.{raw, nothing, both, pair, as_value, as_record, led, cons, uncons, items, times}
use Rattle.mb_format.proofs.Exact.{IsBytes-none, IsBytes-append, IsBytes-cons, IsBytes-replicate}
use Rattle.mb_command.specs.Beginnings.{IsInhabited}

unfoldable pub all_bytes : List ℕ → Bool
all_bytes [] = true
all_bytes (x ∷ xs) = cond (ltb x 256) (all_bytes xs) false

first_tested : (x : ℕ) (xs : List ℕ) (b : Bool) → ltb x 256 ≡ b → (all_bytes xs ≡ true → IsBytes xs) → cond b (all_bytes xs) false ≡ true → IsBytes (x ∷ xs)
first_tested x xs true t rest e = IsBytes-cons x xs (ltb-true _ _ t) (rest e)
first_tested x xs false t rest e = absurd cc

bytes_tested : (xs : List ℕ) → all_bytes xs ≡ true → IsBytes xs
unfolding all_bytes
bytes_tested [] e = IsBytes-none
bytes_tested (x ∷ xs) e = first_tested x xs (ltb x 256) refl (λ d. bytes_tested xs d) e

-- by a value of which the spelling is computed
pub inhabited_by : {A : Type 0} {f : Format A} (a : A) → f.Allowed a → all_bytes (f.spelling a) ≡ true → IsInhabited f
inhabited_by {f} a allowed e = record { value = a; allowed = allowed; are_bytes = bytes_tested (f.spelling a) e }

pub raw_inhabited : (n : ℕ) → IsInhabited (raw n)
raw_inhabited n = record { value = replicate n 0; allowed = length-replicate {A = ℕ} n 0; are_bytes = IsBytes-replicate n 0 (omega arith) }

pub nothing_inhabited : {A : Type 0} {a : A} → IsInhabited (nothing a)
nothing_inhabited {a} = record { value = a; allowed = refl; are_bytes = IsBytes-none }

pub both_inhabited : {A B : Type 0} {f : Format A} {g : A → Format B} → IsInhabited f → ((a : A) → f.Allowed a → IsInhabited (g a)) → IsInhabited (both f g)
both_inhabited {f} {g} one other =
    let two = other one.value one.allowed in
    record { value = (one.value, two.value); allowed = (one.allowed, two.allowed); are_bytes = IsBytes-append (f.spelling one.value) ((g one.value).spelling two.value) one.are_bytes two.are_bytes }

pub pair_inhabited : {A B : Type 0} {f : Format A} {g : Format B} → IsInhabited f → IsInhabited g → IsInhabited (pair f g)
pair_inhabited one other = both_inhabited one (λ a h. other)

pub as_value_inhabited : {A B : Type 0} {f : Format A} (into : A → B) (out : B → Option A) → ((a : A) → f.Allowed a → out (into a) ≡ Some a) → IsInhabited f → IsInhabited (as_value f into out)
as_value_inhabited {f} into out again one =
    let o = again one.value one.allowed in
    record { value = into one.value; allowed = rw o one.allowed; are_bytes = rw o one.are_bytes }

pub as_record_inhabited : {A B : Type 0} {f : Format A} (into : A → B) (parts : B → A) → ((a : A) → f.Allowed a → parts (into a) ≡ a) → IsInhabited f → IsInhabited (as_record f into parts)
as_record_inhabited {A} {f} into parts again one = as_value_inhabited {f = f} into (λ b. Some (parts b)) (λ a h. ap Some (again a h)) one

pub led_inhabited : {K B : Type 0} {f : Format K} {g : K → Format B} (key : B → K) → ((k : K) (b : B) → f.Allowed k → (g k).Allowed b → key b ≡ k) → IsInhabited f → ((k : K) → f.Allowed k → IsInhabited (g k)) → IsInhabited (led f key g)
led_inhabited {K} {B} {f} {g} key keyed one other = as_record_inhabited {f = both f g} (λ p. p.1) (λ b. (key b, b)) (λ p h. ap (λ (k : K). (k, p.1)) (keyed p.0 p.1 h.0 h.1)) (both_inhabited one other)

pub items_inhabited : {A S : Type 0} {item : S → Format A} (next : S → A → S) (Can : ℕ → S → Type 0) (n : ℕ) (state : S) → Can n state → ((m : ℕ) (s : S) → Can (suc m) s → IsInhabited (item s)) → ((m : ℕ) (s : S) (a : A) → Can (suc m) s → (item s).Allowed a → Can m (next s a))
    → IsInhabited (items item next n state)
unfolding items
items_inhabited next Can zero state can each goes = nothing_inhabited
items_inhabited {A} {S} {item} next Can (suc n) state can each goes =
    as_value_inhabited {f = both (item state) (λ a. items item next n (next state a))} cons uncons (λ p h. refl) (both_inhabited (each n state can) (λ a h. items_inhabited next Can n (next state a) (goes n state a can h) each goes))

pub times_inhabited : {A : Type 0} {item : Format A} (n : ℕ) → IsInhabited item → IsInhabited (times n item)
times_inhabited {A} {item} n one = items_inhabited {item = λ (u : Unit {0}). item} (λ u a. u) (λ m u. Unit {0}) n tt tt (λ m u c. one) (λ m u a c h. tt)
