-- The words after the first word of a test.
use Rattle.std.proofs.Common.{◌≡◌, ℕ, List, [], ◌∷◌, Option, Some, None, refl, sym, ap, ◌∙◌, arith}
use Rattle.mb_model.specs.declared.key.Trust.{Trust}
use Rattle.mb_model.specs.declared.key.Trust.TheVariants as trust
use Rattle.mb_model.specs.declared.order.KeyKind.{KeyKind}
use Rattle.mb_model.specs.declared.order.KeyKind.TheVariants as kinds
use Rattle.mb_model.specs.chains.Lines.{IsNumber, number_limit}
use Rattle.mb_model.specs.chains.Drafts.{trust_word, kind_word}
use Rattle.mb_words.specs.Words.{FindsSome}
use Rattle.mb_policy.specs.declared.keyword.Keyword.{Keyword}
use Rattle.mb_policy.specs.declared.keyword.Keyword.TheVariants as keyword
use Rattle.mb_policy.specs.declared.keyword.Pairing.TheVariants as pairing
use Rattle.mb_policy.specs.declared.keyword.Leaf.TheVariants as leaf
use Rattle.mb_policy.specs.Policies.{PolicyItem, set_named}
use Rattle.mb_policy.specs.Reading.{FoundTest, with_value, meant_by, first_of_test, every_keyword, keyword_in, trust_in, kind_in, layer_in}
use Rattle.mb_policy.specs.Reading.{number_first, layer_first, trust_first, kind_first, set_first}
use Rattle.mb_policy.specs.Meanings.{set_given}
use Rattle.mb_policy.proofs.Parts.{number_given, meant_by-given}

-- ---- one word

keyword_again : (k : Keyword) → meant_by first_of_test every_keyword (first_of_test k) ≡ Some k
keyword_again (keyword.Pair pairing.And) = refl
keyword_again (keyword.Pair pairing.Or) = refl
keyword_again keyword.Not = refl
keyword_again (keyword.Leaf leaf.Owner) = refl
keyword_again (keyword.Leaf leaf.Code) = refl
keyword_again (keyword.Leaf leaf.Version) = refl
keyword_again (keyword.Leaf leaf.Trust) = refl
keyword_again (keyword.Leaf leaf.Reliable) = refl
keyword_again (keyword.Leaf leaf.Number) = refl
keyword_again (keyword.Leaf leaf.First) = refl
keyword_again (keyword.Leaf leaf.Last) = refl
keyword_again (keyword.Leaf leaf.Kind) = refl
keyword_again (keyword.Leaf leaf.Alive) = refl
keyword_again (keyword.Leaf leaf.Statement) = refl
keyword_again (keyword.Leaf leaf.Called) = refl
keyword_again (keyword.Leaf leaf.Input) = refl
keyword_again (keyword.Leaf leaf.Answer) = refl

pub keyword_given : (word : List ℕ) (result : Option Keyword) → FindsSome (λ k. word ≡ first_of_test k) result → keyword_in word ≡ result
unfolding keyword_in
keyword_given word result finds = meant_by-given first_of_test every_keyword word result keyword_again finds

pub keyword_word : (k : Keyword) → keyword_in (first_of_test k) ≡ Some k
unfolding keyword_in
keyword_word k = keyword_again k

trust_again : (t : Trust) → meant_by trust_word (trust.Always ∷ trust.Never ∷ trust.Countersigned ∷ []) (trust_word t) ≡ Some t
trust_again trust.Always = refl
trust_again trust.Never = refl
trust_again trust.Countersigned = refl

pub trust_word_in : (t : Trust) → trust_in (trust_word t) ≡ Some t
unfolding trust_in
trust_word_in t = trust_again t

kind_again : (k : KeyKind) → meant_by kind_word (kinds.Epoch ∷ kinds.Configuration ∷ []) (kind_word k) ≡ Some k
kind_again kinds.Epoch = refl
kind_again kinds.Configuration = refl

pub kind_word_in : (k : KeyKind) → kind_in (kind_word k) ≡ Some k
unfolding kind_in
kind_word_in k = kind_again k

-- ---- the next word

pub number_next : (old new : List (List ℕ)) (word : List ℕ) (r : Option ℕ) → old ≡ word ∷ new → FindsSome (IsNumber number_limit word) r → r ≡ number_first old
unfolding number_first
number_next old new word r is finds = sym (ap number_first is ∙ number_given number_limit word r (omega arith) finds)

pub number_over : (old : List (List ℕ)) → old ≡ [] → None ≡ number_first old
unfolding number_first
number_over old is = sym (ap number_first is)

pub layer_next : (last : ℕ) (old new : List (List ℕ)) (word : List ℕ) (r : Option ℕ) → old ≡ word ∷ new → r ≡ layer_in last word → r ≡ layer_first last old
unfolding layer_first
layer_next last old new word r is finds = finds ∙ sym (ap (layer_first last) is)

pub layer_over : (last : ℕ) (old : List (List ℕ)) → old ≡ [] → None ≡ layer_first last old
unfolding layer_first
layer_over last old is = sym (ap (layer_first last) is)

pub trust_next : (old new : List (List ℕ)) (word : List ℕ) (r : Option Trust) → old ≡ word ∷ new → FindsSome (λ t. word ≡ trust_word t) r → r ≡ trust_first old
unfolding trust_first trust_in
trust_next old new word r is finds = sym (ap trust_first is ∙ meant_by-given trust_word (trust.Always ∷ trust.Never ∷ trust.Countersigned ∷ []) word r trust_again finds)

pub trust_over : (old : List (List ℕ)) → old ≡ [] → None ≡ trust_first old
unfolding trust_first
trust_over old is = sym (ap trust_first is)

pub kind_next : (old new : List (List ℕ)) (word : List ℕ) (r : Option KeyKind) → old ≡ word ∷ new → FindsSome (λ k. word ≡ kind_word k) r → r ≡ kind_first old
unfolding kind_first kind_in
kind_next old new word r is finds = sym (ap kind_first is ∙ meant_by-given kind_word (kinds.Epoch ∷ kinds.Configuration ∷ []) word r kind_again finds)

pub kind_over : (old : List (List ℕ)) → old ≡ [] → None ≡ kind_first old
unfolding kind_first
kind_over old is = sym (ap kind_first is)

pub set_next : (items : List PolicyItem) (old new : List (List ℕ)) (word : List ℕ) (r : Option ℕ) → old ≡ word ∷ new → set_given items r ≡ set_named items word → set_given items r ≡ set_first items old
unfolding set_first
set_next items old new word r is finds = finds ∙ sym (ap (set_first items) is)

pub set_over : (items : List PolicyItem) (old : List (List ℕ)) → old ≡ [] → None ≡ set_first items old
unfolding set_first
set_over items old is = sym (ap (set_first items) is)

-- ---- a value, or none

pub none_here : {A : Type 0} (F : List (List ℕ) → Option A) (ws vs : List (List ℕ)) (next : A → FoundTest) → None ≡ F ws → ws ≡ vs → with_value (F vs) next ≡ None
none_here {A} F ws vs next none same = ap (λ (o : Option A). with_value o next) (sym (none ∙ ap F same))

pub some_here : {A : Type 0} (F : List (List ℕ) → Option A) (ws vs : List (List ℕ)) (a : A) (next : A → FoundTest) (x : FoundTest)
    → Some a ≡ F ws → ws ≡ vs → next a ≡ x → with_value (F vs) next ≡ x
some_here {A} F ws vs a next x some same then = ap (λ (o : Option A). with_value o next) (sym (some ∙ ap F same)) ∙ then
