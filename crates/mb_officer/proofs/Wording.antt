-- The words of a draft's lines: each is what stands there in one way only.
use Rattle.std.proofs.Common.{◌≡◌, ◌≤◌, ℕ, ◌+◌, ◌<◌, inl, inr, List, [], ◌∷◌, ◌++◌, length, sym, ap, subst, ◌∙◌, arith, ◌⊎◌}
use Rattle.std.specs.Prelude.{codes, IsTrue}
use Rattle.std.specs.Fmt.{decimal}
use Rattle.std.proofs.lemmas.Fmt.{decimal_digit}
use Rattle.std.proofs.lemmas.List.{append_cancel_left}
use Rattle.mb_model.specs.declared.order.Target.{Target}
use Rattle.mb_model.specs.declared.order.Target.TheVariants as target
use Rattle.mb_model.specs.declared.order.OrderKind.TheVariants.{Surrender}
use Rattle.mb_model.specs.owners.Layers.{is_layer_number}
use Rattle.mb_model.specs.owners.Rules.{MayBeFor}
use Rattle.mb_model.specs.outside.Texts.{IsHex}
use Rattle.mb_model.specs.chains.Drafts.{SaysTarget}
use Rattle.mb_model_lemmas.proofs.WordLemmas.{number_front}
use Rattle.mb_model_lemmas.proofs.DraftLemmas.{says_letters, numbered_fits}

-- ---- layers

pub digit_of : (n : ℕ) (word : List ℕ) → n < 10 → word ≡ (48 + n) ∷ [] → word ≡ decimal n
digit_of n word small e = e ∙ sym (decimal_digit n small)

layer_cases : (n : ℕ) → IsTrue (is_layer_number n) → (n ≡ 1) ⊎ (n ≡ 2) ⊎ (n ≡ 3)
layer_cases n is = grind (arith, is)

upper_cases : (n : ℕ) → MayBeFor Surrender n → (n ≡ 2) ⊎ (n ≡ 3)
upper_cases n may = at n may.0 may.1
  where
    at : (m : ℕ) → 2 ≤ m → m ≤ 3 → (m ≡ 2) ⊎ (m ≡ 3)
    at m least most = grind (arith, least, most)

-- a layer's word, before a space, is one of three
pub layer_space_none : (text rest : List ℕ) (n : ℕ) → ((x : List ℕ) → text ≡ codes "1 " ++ x → ⊥) → ((x : List ℕ) → text ≡ codes "2 " ++ x → ⊥)
    → ((x : List ℕ) → text ≡ codes "3 " ++ x → ⊥) → IsTrue (is_layer_number n) → text ≡ decimal n ++ 32 ∷ rest → ⊥
layer_space_none text rest n one two three is e =
    elim (layer_cases n is) [
      | inl a ↦ one rest (e ∙ ap (λ (x : ℕ). decimal x ++ 32 ∷ rest) a ∙ ap (λ (x : List ℕ). x ++ 32 ∷ rest) (decimal_digit 1 (omega arith)))
      | inr (inl b) ↦ two rest (e ∙ ap (λ (x : ℕ). decimal x ++ 32 ∷ rest) b ∙ ap (λ (x : List ℕ). x ++ 32 ∷ rest) (decimal_digit 2 (omega arith)))
      | inr (inr c) ↦ three rest (e ∙ ap (λ (x : ℕ). decimal x ++ 32 ∷ rest) c ∙ ap (λ (x : List ℕ). x ++ 32 ∷ rest) (decimal_digit 3 (omega arith)))
    ]

pub layer_word_none : (word : List ℕ) (n : ℕ) → (word ≡ codes "1" → ⊥) → (word ≡ codes "2" → ⊥) → (word ≡ codes "3" → ⊥)
    → IsTrue (is_layer_number n) → word ≡ decimal n → ⊥
layer_word_none word n one two three is e =
    elim (layer_cases n is) [
      | inl a ↦ one (e ∙ ap (λ (x : ℕ). decimal x) a ∙ decimal_digit 1 (omega arith))
      | inr (inl b) ↦ two (e ∙ ap (λ (x : ℕ). decimal x) b ∙ decimal_digit 2 (omega arith))
      | inr (inr c) ↦ three (e ∙ ap (λ (x : ℕ). decimal x) c ∙ decimal_digit 3 (omega arith))
    ]

pub upper_word_none : (word : List ℕ) (n : ℕ) → (word ≡ codes "2" → ⊥) → (word ≡ codes "3" → ⊥)
    → MayBeFor Surrender n → word ≡ decimal n → ⊥
upper_word_none word n two three is e =
    elim (upper_cases n is) [
      | inl b ↦ two (e ∙ ap (λ (x : ℕ). decimal x) b ∙ decimal_digit 2 (omega arith))
      | inr c ↦ three (e ∙ ap (λ (x : ℕ). decimal x) c ∙ decimal_digit 3 (omega arith))
    ]

pub layer_front : (text rest : List ℕ) (n : ℕ) → n < 10 → text ≡ (48 + n) ∷ 32 ∷ rest → text ≡ decimal n ++ 32 ∷ rest
layer_front text rest n small e = e ∙ ap (λ (x : List ℕ). x ++ 32 ∷ rest) (sym (decimal_digit n small))

-- ---- hexadecimal words

-- the last word, where a line ends in it
pub word_of : (line word words : List ℕ) (front : List ℕ) → line ≡ front ++ word → line ≡ front ++ words → word ≡ words
word_of line word words front e f = append_cancel_left front word words (sym e ∙ f)

pub hex_word : (front line word bytes : List ℕ) → line ≡ front ++ word → (other : List ℕ) → IsHex other bytes → line ≡ front ++ other → IsHex word bytes
hex_word front line word bytes e other is f = subst (λ (x : List ℕ). IsHex x bytes) (word_of line other word front f e) is

-- ---- targets

-- a layer, a space, and the word of a hash
pub record IsHashed (words : List ℕ) : Type 0 where
  pub layer : ℕ
  pub hash : List ℕ
  pub word : List ℕ
  pub numbered : IsTrue (is_layer_number layer)
  pub sized : length hash ≡ 32
  pub spelled : IsHex word hash
  pub whole : words ≡ decimal layer ++ 32 ∷ word

pub owner_parts : (words : List ℕ) (t : Target) → SaysTarget (codes "target owner " ++ words) t → IsHashed words
owner_parts words (target.Owner layer hash) says = record {
  layer = layer;
  hash = hash;
  word = says.2.0;
  numbered = says.0;
  sized = says.1;
  spelled = says.2.1;
  whole = append_cancel_left (codes "target owner ") words (decimal layer ++ 32 ∷ says.2.0) says.2.2;
}
owner_parts words t says = absurd (omega (arith, says_letters (codes "target owner " ++ words) t says))

pub code_parts : (words : List ℕ) (t : Target) → SaysTarget (codes "target code " ++ words) t → IsHashed words
code_parts words (target.Code layer hash) says = record {
  layer = layer;
  hash = hash;
  word = says.2.0;
  numbered = says.0;
  sized = says.1;
  spelled = says.2.1;
  whole = append_cancel_left (codes "target code ") words (decimal layer ++ 32 ∷ says.2.0) says.2.2;
}
code_parts words t says = absurd (omega (arith, says_letters (codes "target code " ++ words) t says))

-- one layer and one word stand there
pub layered_same : (words a b : List ℕ) (m n : ℕ) → IsTrue (is_layer_number m) → IsTrue (is_layer_number n) → words ≡ decimal m ++ 32 ∷ a
    → words ≡ decimal n ++ 32 ∷ b → (m ≡ n) × (a ≡ b)
layered_same words a b m n im jn e f = number_front m n a b (numbered_fits m im) (numbered_fits n jn) (sym e ∙ f)

pub hash_none : (words word : List ℕ) (n : ℕ) → IsTrue (is_layer_number n) → words ≡ decimal n ++ 32 ∷ word
    → ((hash : List ℕ) → (length hash ≡ 32) × IsHex word hash → ⊥) → IsHashed words → ⊥
hash_none words word n is e none hashed =
    let parts = layered_same words word hashed.word n hashed.layer is hashed.numbered e hashed.whole in
    none hashed.hash (hashed.sized, subst (λ (x : List ℕ). IsHex x hashed.hash) (sym parts.1) hashed.spelled)
