-- Formats that are read exactly are clear, and what is spelled at an offset is spelled part by part.
use Rattle.std.proofs.Common.{◌≡◌, ℕ, zero, suc, ◌+◌, ◌-◌, ◌<◌, ◌⊎◌, inl, inr, List, [], ◌∷◌, ◌++◌, length, take, drop, replicate, Result, Ok, Err, refl, sym, ap, ◌∙◌, take-append-drop, arith}
use Rattle.std.proofs.lemmas.Bool.{cases_lt}
use Rattle.std.proofs.lemmas.List.{get_or_append_left, get_or-append_right, get_or-drop, get_or_past}
use Rattle.mb_format.specs.Format.{IsBytes, IsOffset, SpelledAt, Format, IsClear, SpellsSome, FailsSomewhere}
use Rattle.mb_format.specs.Reading.{IsExact}

abbrev pub done : {V : Type 0} → V → Result V ℕ
done x = Ok x

-- ---- bytes and offsets

pub IsBytes-none : IsBytes []
IsBytes-none i = omega (arith, get_or_past {X = ℕ} [] i 0 (omega arith))

pub IsBytes-append : (bytes more : List ℕ) → IsBytes bytes → IsBytes more → IsBytes (bytes ++ more)
IsBytes-append bytes more h g i =
    elim (cases_lt i (length bytes)) [
      | inl lt ↦ rw (get_or_append_left bytes more 0 i lt) (h i)
      | inr le ↦ rw (get_or-append_right bytes more (length bytes) i 0 refl le) (g (i - length bytes))
    ]

pub IsBytes-cons : (byte : ℕ) (bytes : List ℕ) → byte < 256 → IsBytes bytes → IsBytes (byte ∷ bytes)
IsBytes-cons byte bytes lt h zero = lt
IsBytes-cons byte bytes lt h (suc i) = h i

pub IsBytes-replicate : (n byte : ℕ) → byte < 256 → IsBytes (replicate n byte)
IsBytes-replicate zero byte lt i = IsBytes-none i
IsBytes-replicate (suc n) byte lt zero = lt
IsBytes-replicate (suc n) byte lt (suc i) = IsBytes-replicate n byte lt i

pub IsBytes-drop : (n : ℕ) (bytes : List ℕ) → IsBytes bytes → IsBytes (drop n bytes)
IsBytes-drop n bytes h i = rw get_or-drop (h (n + i))

-- the offset after what is spelled is an offset too
pub after_offset : {A : Type 0} (spelling : A → List ℕ) (Allowed : A → Type 0) (bytes : List ℕ) (at : ℕ) (a : A) (after : ℕ) → IsOffset bytes at → SpelledAt spelling Allowed bytes at a after → IsOffset bytes after
after_offset spelling Allowed bytes at a after p s = record { are_bytes = p.are_bytes; within = s.within }

-- the bytes of what is spelled at an offset are bytes
pub IsBytes-spelled : (bytes text rest : List ℕ) → IsBytes bytes → bytes ≡ text ++ rest → IsBytes text
IsBytes-spelled bytes text rest h e i =
    elim (cases_lt i (length text)) [
      | inl lt ↦ rw (sym (get_or_append_left text rest 0 i lt), ← e) (h i)
      | inr le ↦ rw (get_or_past text i 0 le) (omega arith)
    ]

pub IsBytes-take : (n : ℕ) (bytes : List ℕ) → IsBytes bytes → IsBytes (take n bytes)
IsBytes-take n bytes are = IsBytes-spelled bytes (take n bytes) (drop n bytes) are (sym (take-append-drop n bytes))

-- ---- clarity

ok_is : {A : Type 0} (x y : A) → done x ≡ done y → x ≡ y
ok_is x y e = cc

-- two readings that are the same have one value and one offset
pub ok_parts : {A : Type 0} (a b : A) (m n : ℕ) → ◌≡◌ {A = Result (A × ℕ) ℕ} (Ok (a, m)) (Ok (b, n)) → (a ≡ b) × (m ≡ n)
ok_parts {A} a b m n e =
    let same : ◌≡◌ {A = A × ℕ} (a, m) (b, n) = ok_is (a, m) (b, n) e in
    (ap (λ (p : A × ℕ). p.0) same, ap (λ (p : A × ℕ). p.1) same)

-- spelled and read give one value and one offset
pub met : {A : Type 0} (f : Format A) → IsExact f → (bytes : List ℕ) (at : ℕ) (a b : A) (m n : ℕ) → IsOffset bytes at → SpelledAt f.spelling f.Allowed bytes at a m → f.reads bytes at ≡ Ok (b, n) → (a ≡ b) × (m ≡ n)
met f exact bytes at a b m n p s e =
    ok_parts a b m n (sym (exact.finds bytes at a m p s) ∙ e)

outcome : {A : Type 0} (f : Format A) → IsExact f → (bytes : List ℕ) (at : ℕ) → IsOffset bytes at → (r : Result (A × ℕ) ℕ) → f.reads bytes at ≡ r → SpellsSome f bytes at ⊎ FailsSomewhere f bytes at
outcome f exact bytes at p (Ok r) e = inl (record { value = r.0; after = r.1; spelled = exact.found bytes at r.0 r.1 p e })
outcome f exact bytes at p (Err offset) e = inr (record { offset = offset; fails = exact.fails bytes at offset p e })

pub IsClear-from_exact : {A : Type 0} {f : Format A} → IsExact f → IsClear f
IsClear-from_exact {A} {f} exact = record {
  one_value = λ bytes at a b m n p s t. met f exact bytes at a b m n p s (exact.finds bytes at b n p t);
  one_offset = λ bytes at p q h s t. (let e = exact.failed bytes at p h s in let d = exact.failed bytes at q h t in cc);
  never_both = λ bytes at a m p h s t. (let e = exact.finds bytes at a m h s in let d = exact.failed bytes at p h t in cc);
  always = λ bytes at p. outcome f exact bytes at p (f.reads bytes at) refl;
}
