-- The words of a line, numbers, and words that stand for a value, one by one.
use Rattle.std.proofs.Common.{◌≡◌, ◌≢◌, ◌==◌, ℕ, zero, suc, ◌<◌, ◌≤◌, Bool, true, false, cond, List, [], ◌∷◌, length, Option, Some, None, refl, ap, subst, ◌∙◌, arith}
use Rattle.std.specs.Prelude.{All, nat_le, not, ◌&&◌, IsTrue}
use Rattle.std.specs.List.{slice_split}
use Rattle.std.specs.Fmt.{decimal}
use Rattle.std.specs.Str.Parse.{digits_value}
use Rattle.std.proofs.lemmas.Fmt.{digits_value-decimal}
use Rattle.std.proofs.lemmas.Str.Parse.{numerals_by_value, tells_digits}
use Rattle.std.proofs.lemmas.List.Splits.{slice_split_at, slice_split_none, length-slice_split}
use Rattle.std.proofs.lemmas.List.Elements.{All-weaker}
use Rattle.std.proofs.lemmas.Bool.{and_parts}
use Rattle.mb_format.specs.Combinators.{same_bytes}
use Rattle.mb_format.proofs.Fields.{same_bytes-true, same_bytes-refl}
use Rattle.mb_model.specs.owners.Layers.{is_layer_number}
use Rattle.mb_model.specs.chains.Lines.{IsNumber, number_limit}
use Rattle.mb_words.specs.Words.{IsSplit, FindsSome}
use Rattle.mb_policy.specs.Policies.{line_words}
use Rattle.mb_policy.specs.Reading.{meant_by, number_in, positive, layer_in}
use Rattle.mb_policy.specs.Meanings.{words_left, MatchesNil}

-- ---- words

no_space : (byte : ℕ) → byte ≢ 32 → (byte == 32) ≡ false
no_space byte isnt = grind (arith, isnt)

pub words_first : (text front rest : List ℕ) → IsSplit 32 text front rest → line_words text ≡ front ∷ line_words rest
unfolding line_words
words_first text front rest is =
    ap (slice_split (λ (byte : ℕ). byte == 32)) is.whole
    ∙ slice_split_at (λ (byte : ℕ). byte == 32) front 32 rest (All-weaker (λ byte. byte ≢ 32) (λ byte. (byte == 32) ≡ false) no_space front is.first) refl

pub words_last : (text : List ℕ) → All (λ byte. byte ≢ 32) text → line_words text ≡ text ∷ []
unfolding line_words
words_last text plain = slice_split_none (λ (byte : ℕ). byte == 32) text (All-weaker (λ byte. byte ≢ 32) (λ byte. (byte == 32) ≡ false) no_space text plain)

some_word : (ws : List (List ℕ)) → 0 < length ws → (word : List ℕ) × (rest : List (List ℕ)) × (ws ≡ word ∷ rest)
some_word [] some = absurd (omega (arith, some))
some_word (word ∷ rest) some = (word, rest, refl)

pub over : (left : Bool) (text : List ℕ) → MatchesNil (not left) (words_left left text)
unfolding line_words
over true text = some_word (line_words text) (omega (arith, length-slice_split (λ (byte : ℕ). byte == 32) text))
over false text = refl

-- ---- numbers

pub number_again : (n : ℕ) → n ≤ number_limit → digits_value 10 (decimal n) ≡ n
number_again n fits = digits_value-decimal (numerals_by_value _ tells_digits) n (omega (arith, fits))

guarded : (b : Bool) (n : ℕ) → (b ≡ true → ⊥) → cond b (Some n) None ≡ None
guarded true n never = absurd (never refl)
guarded false n never = refl

le_true : (m n : ℕ) → nat_le m n ≡ true → m ≤ n
le_true m n e = grind (arith, e)

true_le : (m n : ℕ) → m ≤ n → nat_le m n ≡ true
true_le m n le = grind (arith, le)

pub number_found : (most : ℕ) (word : List ℕ) (n : ℕ) → most ≤ number_limit → IsNumber most word n → number_in most word ≡ Some n
unfolding number_in
number_found most word n fits is =
    let value : digits_value 10 word ≡ n = ap (digits_value 10) is.0 ∙ number_again n (omega (arith, fits, is.1)) in
    let same : same_bytes word (decimal (digits_value 10 word)) ≡ true = ap (λ m. same_bytes word (decimal m)) value ∙ ap (λ w. same_bytes w (decimal n)) is.0 ∙ same_bytes-refl (decimal n) in
    let within : nat_le (digits_value 10 word) most ≡ true = ap (λ m. nat_le m most) value ∙ true_le n most is.1 in
    ap (λ b. cond (b && nat_le (digits_value 10 word) most) (Some (digits_value 10 word)) None) same
    ∙ ap (λ b. cond b (Some (digits_value 10 word)) None) within
    ∙ ap Some value

pub number_none : (most : ℕ) (word : List ℕ) → ((n : ℕ) → IsNumber most word n → ⊥) → number_in most word ≡ None
unfolding number_in
number_none most word none =
    guarded (same_bytes word (decimal (digits_value 10 word)) && nat_le (digits_value 10 word) most) (digits_value 10 word)
    (λ e. let both = and_parts _ _ e in none (digits_value 10 word) (same_bytes-true word (decimal (digits_value 10 word)) both.0, le_true (digits_value 10 word) most both.1))

-- what `read_number` gives is the number in the word
pub number_given : (most : ℕ) (word : List ℕ) (result : Option ℕ) → most ≤ number_limit → FindsSome (IsNumber most word) result → number_in most word ≡ result
number_given most word (Some n) fits is = number_found most word n fits is
number_given most word None fits none = number_none most word none

number_said_by : (b : Bool) (most d n : ℕ) (word : List ℕ) → (same_bytes word (decimal d) && nat_le d most) ≡ b → cond b (Some d) None ≡ Some n → IsNumber most word n
number_said_by true most d n word is e =
    let both = and_parts (same_bytes word (decimal d)) (nat_le d most) is in
    let same : d ≡ n = cc in
    subst (λ m. IsNumber most word m) same (same_bytes-true word (decimal d) both.0, le_true d most both.1)
number_said_by false most d n word is e = absurd cc

pub number_said : (most : ℕ) (word : List ℕ) (n : ℕ) → number_in most word ≡ Some n → IsNumber most word n
unfolding number_in
number_said most word n e = number_said_by _ most (digits_value 10 word) n word refl e

-- ---- layers

pub no_layer : (last : ℕ) (word : List ℕ) → ((n : ℕ) → IsNumber last word n → ⊥) → layer_in last word ≡ None
unfolding layer_in
no_layer last word none = ap positive (number_none last word none)

pub positive_again : (m : ℕ) → 1 ≤ m → positive (Some m) ≡ Some m
positive_again zero some = absurd (omega (arith, some))
positive_again (suc n) some = refl

pub layer_zero : (last : ℕ) (word : List ℕ) (n : ℕ) → last ≤ number_limit → IsNumber last word n → n ≡ 0 → layer_in last word ≡ None
unfolding layer_in
layer_zero last word n fits is none = ap positive (number_found last word n fits is) ∙ ap (λ (m : ℕ). positive (Some m)) none

pub layer_some : (last : ℕ) (word : List ℕ) (n : ℕ) → last ≤ number_limit → IsNumber last word n → (n ≡ 0 → ⊥) → layer_in last word ≡ Some n
unfolding layer_in
layer_some last word n fits is some = ap positive (number_found last word n fits is) ∙ positive_again n (omega (arith, some))

positive_said : (o : Option ℕ) (m : ℕ) → positive o ≡ Some m → (o ≡ Some m) × (1 ≤ m)
positive_said None m e = absurd cc
positive_said (Some zero) m e = absurd cc
positive_said (Some (suc n)) m e = let same : suc n ≡ m = cc in (e, omega (arith, same))

-- what was read as a layer is a number from 1 to the last
pub layer_said : (last : ℕ) (word : List ℕ) (m : ℕ) → layer_in last word ≡ Some m → (word ≡ decimal m) × (1 ≤ m) × (m ≤ last)
unfolding layer_in
layer_said last word m e =
    let some = positive_said (number_in last word) m e in
    let is = number_said last word m some.0 in
    (is.0, some.1, is.1)

pub layer_again : (last m : ℕ) → last ≤ number_limit → 1 ≤ m → m ≤ last → layer_in last (decimal m) ≡ Some m
unfolding layer_in
layer_again last m fits some most = ap positive (number_found last (decimal m) m fits (refl, most)) ∙ positive_again m some

pub layer_true : (m : ℕ) → 1 ≤ m → m ≤ 3 → IsTrue (is_layer_number m)
layer_true m some most = grind (arith, some, most)

pub layer_most : (m : ℕ) → IsTrue (is_layer_number m) → m ≤ 3
layer_most m is = grind (arith, is)

pub layer_least : (m : ℕ) → IsTrue (is_layer_number m) → 1 ≤ m
layer_least m is = grind (arith, is)

-- ---- words that stand for a value

-- the value that was found is spelled by the word
pub meant_by-said : {A : Type 0} (spell : A → List ℕ) (values : List A) (word : List ℕ) (a : A) → meant_by spell values word ≡ Some a → word ≡ spell a
meant_by-said spell [] word a e = absurd cc
meant_by-said {A} spell (x ∷ values) word a e = by (same_bytes word (spell x)) (meant_by-said spell values word a) refl e
  where
    by : (b : Bool) → (meant_by spell values word ≡ Some a → word ≡ spell a) → same_bytes word (spell x) ≡ b → cond b (Some x) (meant_by spell values word) ≡ Some a → word ≡ spell a
    by true later same e = let is : x ≡ a = cc in same_bytes-true word (spell x) same ∙ ap spell is
    by false later same e = later e

-- a reader that finds the value of a word finds the one among these, where each value is found again
pub meant_by-given : {A : Type 0} (spell : A → List ℕ) (values : List A) (word : List ℕ) (result : Option A)
    → ((a : A) → meant_by spell values (spell a) ≡ Some a) → FindsSome (λ a. word ≡ spell a) result → meant_by spell values word ≡ result
meant_by-given spell values word (Some a) again is = ap (meant_by spell values) is ∙ again a
meant_by-given {A} spell values word None again none = by (meant_by spell values word) refl
  where
    by : (found : Option A) → meant_by spell values word ≡ found → meant_by spell values word ≡ None
    by None is = is
    by (Some a) is = absurd (none a (meant_by-said spell values word a is))
