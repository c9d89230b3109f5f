-- The line of one trust or of two, by its first words and the rest.
use Rattle.std.proofs.Common.{◌≡◌, ℕ, List, ◌++◌, get_or, refl, sym, ap, ◌∙◌, arith}
use Rattle.std.specs.Prelude.{codes, Option, Some, None}
use Rattle.std.proofs.lemmas.List.{append_cancel_left}
use Rattle.mb_model.specs.declared.key.Trust.{Trust}
use Rattle.mb_model.specs.declared.key.Trust.TheVariants.{Always, Never, Countersigned}
use Rattle.mb_model.specs.declared.layer.Trusts.{Trusts}
use Rattle.mb_model.specs.chains.Drafts.{trust_word, trust_line, trusts_line}
use Rattle.mb_words.specs.Words.{FindsSome}
use Rattle.mb_officer.specs.Drafting.{SaysSecond}

-- ---- one trust

is_trust_line : (trust : Trust) → trust_line trust ≡ codes "trust " ++ trust_word trust
is_trust_line Always = refl
is_trust_line Never = refl
is_trust_line Countersigned = refl

-- after the first word of a line, a word for a trust tells it
pub one_tells : (line word : List ℕ) (result : Option Trust) → line ≡ codes "trust " ++ word
    → FindsSome (λ trust. word ≡ trust_word trust) result → FindsSome (λ trust. line ≡ trust_line trust) result
one_tells line word (Some trust) begins says = begins ∙ ap (λ (w : List ℕ). codes "trust " ++ w) says ∙ sym (is_trust_line trust)
one_tells line word None begins none =
    λ trust is. none trust (append_cancel_left (codes "trust ") word (trust_word trust) (sym begins ∙ is ∙ is_trust_line trust))

-- a line that does not begin so says no trust
pub none_said : (line : List ℕ) → ((word : List ℕ) → line ≡ codes "trust " ++ word → ⊥) → (trust : Trust) → line ≡ trust_line trust → ⊥
none_said line none trust is = none (trust_word trust) (is ∙ is_trust_line trust)

-- ---- two trusts

abbrev pub line_with : Trust → List ℕ → List ℕ
line_with Always word = codes "trust always " ++ word
line_with Never word = codes "trust never " ++ word
line_with Countersigned word = codes "trust countersigned " ++ word

is_line_with : (one two : Trust) → trusts_line (record { one = one; two = two }) ≡ line_with one (trust_word two)
is_line_with Always two = refl
is_line_with Never two = refl
is_line_with Countersigned two = refl

split : (a b : Trust) (x y : List ℕ) → line_with a x ≡ line_with b y → (b ≡ a) × (x ≡ y)
split Always Always x y e = (refl, append_cancel_left (codes "trust always ") x y e)
split Never Never x y e = (refl, append_cancel_left (codes "trust never ") x y e)
split Countersigned Countersigned x y e = (refl, append_cancel_left (codes "trust countersigned ") x y e)
split a b x y e = absurd (omega (arith, ap (λ (l : List ℕ). get_or l 6 0) e))

-- where a line begins with the first trust, the word after it tells the second
pub second_tells : (first : Trust) (line word : List ℕ) (result : Option Trusts) → line ≡ line_with first word
    → FindsSome (SaysSecond first word) result → FindsSome (λ trusts. line ≡ trusts_line trusts) result
second_tells first line word (Some trusts) begins says =
    begins ∙ ap (line_with first) says.1 ∙ ap (λ (t : Trust). line_with t (trust_word trusts.two)) (sym says.0) ∙ sym (is_line_with trusts.one trusts.two)
second_tells first line word None begins none =
    λ trusts is. none trusts (split first trusts.one word (trust_word trusts.two) (sym begins ∙ is ∙ is_line_with trusts.one trusts.two))

-- a line that begins with none of them says no two trusts
pub none_begins : (line : List ℕ) → ((word : List ℕ) → line ≡ codes "trust always " ++ word → ⊥) → ((word : List ℕ) → line ≡ codes "trust never " ++ word → ⊥)
    → ((word : List ℕ) → line ≡ codes "trust countersigned " ++ word → ⊥) → (trusts : Trusts) → line ≡ trusts_line trusts → ⊥
none_begins line always never countersigned trusts is = by trusts.one trusts.two is
  where
    by : (one two : Trust) → line ≡ trusts_line (record { one = one; two = two }) → ⊥
    by Always two e = always (trust_word two) e
    by Never two e = never (trust_word two) e
    by Countersigned two e = countersigned (trust_word two) e
