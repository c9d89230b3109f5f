-- What is read by computing is what the words say: nothing else is found, and all that they say is.
use Rattle.std.proofs.Common.{Bool, true, false, cond, ◌≡◌, ℕ, zero, suc, ◌≤◌, List, [], ◌∷◌, ◌++◌, Option, Some, None, refl, sym, ap, subst, ◌∙◌, arith, append_assoc, append-nil, codes, length}
use Rattle.std.specs.Prelude.{IsTrue}
use Rattle.std.specs.Fmt.{decimal}
use Rattle.mb_format.specs.Combinators.{same_bytes}
use Rattle.mb_format.proofs.Fields.{same_bytes-true}
use Rattle.mb_model.specs.declared.key.Trust.{Trust}
use Rattle.mb_model.specs.declared.key.Trust.TheVariants as trust
use Rattle.mb_model.specs.declared.order.KeyKind.{KeyKind}
use Rattle.mb_model.specs.declared.order.KeyKind.TheVariants as kinds
use Rattle.mb_model.specs.chains.Drafts.{trust_word, kind_word}
use Rattle.mb_model.specs.owners.Layers.{is_layer_number}
use Rattle.mb_model.specs.chains.Lines.{number_limit}
use Rattle.mb_policy.specs.declared.keyword.Keyword.{Keyword}
use Rattle.mb_policy.specs.declared.keyword.Keyword.TheVariants as keyword
use Rattle.mb_policy.specs.declared.keyword.Pairing.{Pairing}
use Rattle.mb_policy.specs.declared.keyword.Pairing.TheVariants as pairing
use Rattle.mb_policy.specs.declared.keyword.Leaf.{Leaf}
use Rattle.mb_policy.specs.declared.keyword.Leaf.TheVariants as leaf
use Rattle.mb_policy.specs.Policies.{Test, both_of, either_of, opposite, owner_in_set, code_in_set, version_between, trust_is, reliable_at, number_between, comes_first, comes_last, kind_is, key_lives, has_statement, has_call, input_in, answer_in}
use Rattle.mb_policy.specs.Policies.{HashSet, PolicyItem, set_item, rule_item, set_named, test_words, test_depth, HasSet, MayFollow}
use Rattle.mb_policy.specs.Reading.{FoundTest, with_value, leaf_word, first_of_test, every_keyword, keyword_in, trust_in, kind_in, later_words}
use Rattle.mb_policy.specs.Reading.{number_first, layer_first, trust_first, kind_first, set_first, reads_owner, reads_code, reads_version, reads_trust, reads_reliable, reads_numbers, reads_kind, reads_input, reads_answer}
use Rattle.mb_policy.specs.Reading.{reads_leaf, pair_test, reads_after, reads}
use Rattle.mb_policy.specs.Meanings.{SaysTest}
use Rattle.mb_policy.proofs.Parts.{number_found, number_said, layer_said, layer_again, layer_true, layer_most, layer_least, meant_by-said}
use Rattle.mb_policy.proofs.Leaves.{keyword_word, trust_word_in, kind_word_in}

-- the words begin with this test, and these are left
pub record Begins (items : List PolicyItem) (depth : ℕ) (words : List (List ℕ)) (test : Test) (rest : List (List ℕ)) : Type 0 where
  pub whole : words ≡ test_words test ++ rest
  pub follows : MayFollow items test
  pub shallow : test_depth test ≤ depth

-- ---- what was found in the next word

number_is : (words : List (List ℕ)) (n : ℕ) → number_first words ≡ Some n → (words ≡ decimal n ∷ later_words words) × (n ≤ number_limit)
unfolding number_first
number_is [] n e = absurd cc
number_is (word ∷ rest) n e = let said = number_said number_limit word n e in (ap (λ (w : List ℕ). w ∷ rest) said.0, said.1)

layer_is : (last : ℕ) (words : List (List ℕ)) (n : ℕ) → layer_first last words ≡ Some n → (words ≡ decimal n ∷ later_words words) × (1 ≤ n) × (n ≤ last)
unfolding layer_first
layer_is last [] n e = absurd cc
layer_is last (word ∷ rest) n e = let said = layer_said last word n e in (ap (λ (w : List ℕ). w ∷ rest) said.0, said.1, said.2)

trust_found : (words : List (List ℕ)) (t : Trust) → trust_first words ≡ Some t → words ≡ trust_word t ∷ later_words words
unfolding trust_first trust_in
trust_found [] t e = absurd cc
trust_found (word ∷ rest) t e = ap (λ (w : List ℕ). w ∷ rest) (meant_by-said trust_word (trust.Always ∷ trust.Never ∷ trust.Countersigned ∷ []) word t e)

kind_found : (words : List (List ℕ)) (k : KeyKind) → kind_first words ≡ Some k → words ≡ kind_word k ∷ later_words words
unfolding kind_first kind_in
kind_found [] k e = absurd cc
kind_found (word ∷ rest) k e = ap (λ (w : List ℕ). w ∷ rest) (meant_by-said kind_word (kinds.Epoch ∷ kinds.Configuration ∷ []) word k e)

-- the set that a name finds has the name
named_so : (items : List PolicyItem) (name : List ℕ) (set : HashSet) → set_named items name ≡ Some set → set.name ≡ name
named_so [] name set e = absurd cc
named_so (rule_item rule ∷ rest) name set e = named_so rest name set e
named_so (set_item own ∷ rest) name set e = by (same_bytes own.name name) (named_so rest name set) refl e
  where
    by : (b : Bool) → (set_named rest name ≡ Some set → set.name ≡ name) → same_bytes own.name name ≡ b → cond b (Some own) (set_named rest name) ≡ Some set → set.name ≡ name
    by true later same e = let is : own ≡ set = cc in ap (λ (s : HashSet). s.name) (sym is) ∙ same_bytes-true own.name name same
    by false later same e = later e

set_is : (items : List PolicyItem) (words : List (List ℕ)) (set : HashSet) → set_first items words ≡ Some set → (words ≡ set.name ∷ later_words words) × HasSet items set
unfolding set_first
set_is items [] set e = absurd cc
set_is items (word ∷ rest) set e =
    let same = named_so items word set e in
    (ap (λ (w : List ℕ). w ∷ rest) (sym same), ap (set_named items) same ∙ e)

-- ---- a value, and what it gives

record ValueFound {A : Type 0} (o : Option A) (next : A → FoundTest) (x : Test × List (List ℕ)) : Type 0 where
  value : A
  first : o ≡ Some value
  then : next value ≡ Some x

value_found : {A : Type 0} (o : Option A) (next : A → FoundTest) (x : Test × List (List ℕ)) → with_value o next ≡ Some x → ValueFound o next x
value_found None next x e = absurd cc
value_found (Some a) next x e = record { value = a; first = refl; then = e }

same_pair : (x y : Test × List (List ℕ)) → ◌≡◌ {A = FoundTest} (Some x) (Some y) → x ≡ y
same_pair x y e = cc

carried : (items : List PolicyItem) (depth : ℕ) (words : List (List ℕ)) (x y : Test × List (List ℕ)) → ◌≡◌ {A = FoundTest} (Some x) (Some y)
    → Begins items depth words x.0 x.1 → Begins items depth words y.0 y.1
carried items depth words x y same begins = subst (λ (p : Test × List (List ℕ)). Begins items depth words p.0 p.1) (same_pair x y same) begins

-- ---- leaves: what was read is said

Sound_leaf : List PolicyItem → Leaf → (List (List ℕ) → FoundTest) → Type 0
Sound_leaf items it read = (depth : ℕ) (words : List (List ℕ)) (x : Test × List (List ℕ)) → read words ≡ Some x → Begins items (suc depth) (leaf_word it ∷ words) x.0 x.1

sound_owner : (items : List PolicyItem) → Sound_leaf items leaf.Owner (reads_owner items)
unfolding Sound_leaf reads_owner
sound_owner items depth words x e =
    let one = value_found (layer_first 3 words) _ x e in
    let two = value_found (set_first items (later_words words)) _ x one.then in
    let layer = layer_is 3 words one.value one.first in
    let set = set_is items (later_words words) two.value two.first in
    carried items (suc depth) (leaf_word leaf.Owner ∷ words) (owner_in_set one.value two.value, later_words (later_words words)) x two.then
    (record {
      whole = ap (λ (ws : List (List ℕ)). leaf_word leaf.Owner ∷ ws) (layer.0 ∙ ap (λ (ws : List (List ℕ)). decimal one.value ∷ ws) set.0);
      follows = (layer_true one.value layer.1 layer.2, set.1);
      shallow = omega arith;
    })

sound_code : (items : List PolicyItem) → Sound_leaf items leaf.Code (reads_code items)
unfolding Sound_leaf reads_code
sound_code items depth words x e =
    let one = value_found (layer_first 3 words) _ x e in
    let two = value_found (set_first items (later_words words)) _ x one.then in
    let layer = layer_is 3 words one.value one.first in
    let set = set_is items (later_words words) two.value two.first in
    carried items (suc depth) (leaf_word leaf.Code ∷ words) (code_in_set one.value two.value, later_words (later_words words)) x two.then
    (record {
      whole = ap (λ (ws : List (List ℕ)). leaf_word leaf.Code ∷ ws) (layer.0 ∙ ap (λ (ws : List (List ℕ)). decimal one.value ∷ ws) set.0);
      follows = (layer_true one.value layer.1 layer.2, set.1);
      shallow = omega arith;
    })

sound_version : (items : List PolicyItem) → Sound_leaf items leaf.Version reads_version
unfolding Sound_leaf reads_version
sound_version items depth words x e =
    let one = value_found (layer_first 3 words) _ x e in
    let two = value_found (number_first (later_words words)) _ x one.then in
    let three = value_found (number_first (later_words (later_words words))) _ x two.then in
    let layer = layer_is 3 words one.value one.first in
    let least = number_is (later_words words) two.value two.first in
    let most = number_is (later_words (later_words words)) three.value three.first in
    carried items (suc depth) (leaf_word leaf.Version ∷ words) (version_between one.value two.value three.value, later_words (later_words (later_words words))) x three.then
    (record {
      whole =
          ap (λ (ws : List (List ℕ)). leaf_word leaf.Version ∷ ws)
          (layer.0 ∙ ap (λ (ws : List (List ℕ)). decimal one.value ∷ ws) (least.0 ∙ ap (λ (ws : List (List ℕ)). decimal two.value ∷ ws) most.0));
      follows = (layer_true one.value layer.1 layer.2, least.1, most.1);
      shallow = omega arith;
    })

sound_trust : (items : List PolicyItem) → Sound_leaf items leaf.Trust reads_trust
unfolding Sound_leaf reads_trust
sound_trust items depth words x e =
    let one = value_found (layer_first 3 words) _ x e in
    let two = value_found (layer_first 2 (later_words words)) _ x one.then in
    let three = value_found (trust_first (later_words (later_words words))) _ x two.then in
    let layer = layer_is 3 words one.value one.first in
    let lower = layer_is 2 (later_words words) two.value two.first in
    carried items (suc depth) (leaf_word leaf.Trust ∷ words) (trust_is one.value two.value three.value, later_words (later_words (later_words words))) x three.then
    (record {
      whole =
          ap (λ (ws : List (List ℕ)). leaf_word leaf.Trust ∷ ws)
          (layer.0
          ∙ ap (λ (ws : List (List ℕ)). decimal one.value ∷ ws)
          (lower.0 ∙ ap (λ (ws : List (List ℕ)). decimal two.value ∷ ws) (trust_found (later_words (later_words words)) three.value three.first)));
      follows = (layer_true one.value layer.1 layer.2, lower.1, lower.2);
      shallow = omega arith;
    })

sound_reliable : (items : List PolicyItem) → Sound_leaf items leaf.Reliable reads_reliable
unfolding Sound_leaf reads_reliable
sound_reliable items depth words x e =
    let one = value_found (layer_first 3 words) _ x e in
    let layer = layer_is 3 words one.value one.first in
    carried items (suc depth) (leaf_word leaf.Reliable ∷ words) (reliable_at one.value, later_words words) x one.then
    (record {
      whole = ap (λ (ws : List (List ℕ)). leaf_word leaf.Reliable ∷ ws) layer.0;
      follows = layer_true one.value layer.1 layer.2;
      shallow = omega arith;
    })

sound_numbers : (items : List PolicyItem) → Sound_leaf items leaf.Number reads_numbers
unfolding Sound_leaf reads_numbers
sound_numbers items depth words x e =
    let one = value_found (number_first words) _ x e in
    let two = value_found (number_first (later_words words)) _ x one.then in
    let least = number_is words one.value one.first in
    let most = number_is (later_words words) two.value two.first in
    carried items (suc depth) (leaf_word leaf.Number ∷ words) (number_between one.value two.value, later_words (later_words words)) x two.then
    (record {
      whole = ap (λ (ws : List (List ℕ)). leaf_word leaf.Number ∷ ws) (least.0 ∙ ap (λ (ws : List (List ℕ)). decimal one.value ∷ ws) most.0);
      follows = (least.1, most.1);
      shallow = omega arith;
    })

sound_kind : (items : List PolicyItem) → Sound_leaf items leaf.Kind reads_kind
unfolding Sound_leaf reads_kind
sound_kind items depth words x e =
    let one = value_found (kind_first words) _ x e in
    carried items (suc depth) (leaf_word leaf.Kind ∷ words) (kind_is one.value, later_words words) x one.then
    (record {
      whole = ap (λ (ws : List (List ℕ)). leaf_word leaf.Kind ∷ ws) (kind_found words one.value one.first);
      follows = tt;
      shallow = omega arith;
    })

sound_input : (items : List PolicyItem) → Sound_leaf items leaf.Input (reads_input items)
unfolding Sound_leaf reads_input
sound_input items depth words x e =
    let one = value_found (set_first items words) _ x e in
    let set = set_is items words one.value one.first in
    carried items (suc depth) (leaf_word leaf.Input ∷ words) (input_in one.value, later_words words) x one.then
    (record {
      whole = ap (λ (ws : List (List ℕ)). leaf_word leaf.Input ∷ ws) set.0;
      follows = set.1;
      shallow = omega arith;
    })

sound_answer : (items : List PolicyItem) → Sound_leaf items leaf.Answer (reads_answer items)
unfolding Sound_leaf reads_answer
sound_answer items depth words x e =
    let one = value_found (set_first items words) _ x e in
    let set = set_is items words one.value one.first in
    carried items (suc depth) (leaf_word leaf.Answer ∷ words) (answer_in one.value, later_words words) x one.then
    (record {
      whole = ap (λ (ws : List (List ℕ)). leaf_word leaf.Answer ∷ ws) set.0;
      follows = set.1;
      shallow = omega arith;
    })

sound_leaf : (items : List PolicyItem) (it : Leaf) → Sound_leaf items it (reads_leaf items it)
unfolding Sound_leaf
sound_leaf items leaf.Owner = sound_owner items
sound_leaf items leaf.Code = sound_code items
sound_leaf items leaf.Version = sound_version items
sound_leaf items leaf.Trust = sound_trust items
sound_leaf items leaf.Reliable = sound_reliable items
sound_leaf items leaf.Number = sound_numbers items
sound_leaf items leaf.Kind = sound_kind items
sound_leaf items leaf.First = λ depth words x e. carried items (suc depth) (leaf_word leaf.First ∷ words) (comes_first, words) x e (record { whole = refl; follows = tt; shallow = omega arith })
sound_leaf items leaf.Last = λ depth words x e. carried items (suc depth) (leaf_word leaf.Last ∷ words) (comes_last, words) x e (record { whole = refl; follows = tt; shallow = omega arith })
sound_leaf items leaf.Alive = λ depth words x e. carried items (suc depth) (leaf_word leaf.Alive ∷ words) (key_lives, words) x e (record { whole = refl; follows = tt; shallow = omega arith })
sound_leaf items leaf.Statement = λ depth words x e. carried items (suc depth) (leaf_word leaf.Statement ∷ words) (has_statement, words) x e (record { whole = refl; follows = tt; shallow = omega arith })
sound_leaf items leaf.Called = λ depth words x e. carried items (suc depth) (leaf_word leaf.Called ∷ words) (has_call, words) x e (record { whole = refl; follows = tt; shallow = omega arith })
sound_leaf items leaf.Input = sound_input items
sound_leaf items leaf.Answer = sound_answer items

-- ---- all tests: what was read is said

begins_pair : (items : List PolicyItem) (depth : ℕ) (it : Pairing) (words mid rest : List (List ℕ)) (a b : Test) → Begins items depth words a mid → Begins items depth mid b rest
    → Begins items (suc depth) (first_of_test (keyword.Pair it) ∷ words) (pair_test it a b) rest
begins_pair items depth pairing.And words mid rest a b first second = record {
  whole = ap (λ (ws : List (List ℕ)). codes "and" ∷ ws) (first.whole ∙ ap (λ (m : List (List ℕ)). test_words a ++ m) second.whole ∙ sym (append_assoc (test_words a) (test_words b) rest));
  follows = (first.follows, second.follows);
  shallow = omega (arith, first.shallow, second.shallow);
}
begins_pair items depth pairing.Or words mid rest a b first second = record {
  whole = ap (λ (ws : List (List ℕ)). codes "or" ∷ ws) (first.whole ∙ ap (λ (m : List (List ℕ)). test_words a ++ m) second.whole ∙ sym (append_assoc (test_words a) (test_words b) rest));
  follows = (first.follows, second.follows);
  shallow = omega (arith, first.shallow, second.shallow);
}

Sound : List PolicyItem → ℕ → (List (List ℕ) → FoundTest) → Type 0
Sound items depth inner = (words : List (List ℕ)) (x : Test × List (List ℕ)) → inner words ≡ Some x → Begins items depth words x.0 x.1

keyword_said : (word : List ℕ) (k : Keyword) → keyword_in word ≡ Some k → word ≡ first_of_test k
unfolding keyword_in
keyword_said word k e = meant_by-said first_of_test every_keyword word k e

sound_after : (items : List PolicyItem) (depth : ℕ) (inner : List (List ℕ) → FoundTest) → Sound items depth inner → (k : Keyword) (words : List (List ℕ)) (x : Test × List (List ℕ))
    → reads_after items inner (Some k) words ≡ Some x → Begins items (suc depth) (first_of_test k ∷ words) x.0 x.1
unfolding Sound Sound_leaf
sound_after items depth inner sound (keyword.Pair it) words x e =
    let one = value_found (inner words) _ x e in
    let two = value_found (inner one.value.1) _ x one.then in
    carried items (suc depth) (first_of_test (keyword.Pair it) ∷ words) (pair_test it one.value.0 two.value.0, two.value.1) x two.then
    (begins_pair items depth it words one.value.1 two.value.1 one.value.0 two.value.0 (sound words one.value one.first) (sound one.value.1 two.value two.first))
sound_after items depth inner sound keyword.Not words x e =
    let one = value_found (inner words) _ x e in
    let begins = sound words one.value one.first in
    carried items (suc depth) (codes "not" ∷ words) (opposite one.value.0, one.value.1) x one.then
    (record {
      whole = ap (λ (ws : List (List ℕ)). codes "not" ∷ ws) begins.whole;
      follows = begins.follows;
      shallow = omega (arith, begins.shallow);
    })
sound_after items depth inner sound (keyword.Leaf it) words x e = sound_leaf items it depth words x e

sound_word : (items : List PolicyItem) (depth : ℕ) (inner : List (List ℕ) → FoundTest) → Sound items depth inner → (k : Option Keyword) (word : List ℕ) (words : List (List ℕ)) (x : Test × List (List ℕ))
    → keyword_in word ≡ k → reads_after items inner k words ≡ Some x → Begins items (suc depth) (word ∷ words) x.0 x.1
sound_word items depth inner sound None word words x is e = absurd cc
sound_word items depth inner sound (Some k) word words x is e =
    subst (λ (w : List ℕ). Begins items (suc depth) (w ∷ words) x.0 x.1) (sym (keyword_said word k is)) (sound_after items depth inner sound k words x e)

pub reads_sound : (items : List PolicyItem) (depth : ℕ) (words : List (List ℕ)) (x : Test × List (List ℕ)) → reads items depth words ≡ Some x → Begins items depth words x.0 x.1
unfolding reads Sound
reads_sound items zero words x e = absurd cc
reads_sound items (suc depth) [] x e = absurd cc
reads_sound items (suc depth) (word ∷ words) x e = sound_word items depth (reads items depth) (reads_sound items depth) (keyword_in word) word words x refl e

-- ---- all tests: what is said is read

set_again : (items : List PolicyItem) (set : HashSet) (rest : List (List ℕ)) → HasSet items set → set_first items (set.name ∷ rest) ≡ Some set
unfolding set_first
set_again items set rest has = has

number_again : (n : ℕ) (rest : List (List ℕ)) → n ≤ number_limit → number_first (decimal n ∷ rest) ≡ Some n
unfolding number_first
number_again n rest fits = number_found number_limit (decimal n) n (omega arith) (refl, fits)

layer_found : (m : ℕ) (rest : List (List ℕ)) → IsTrue (is_layer_number m) → layer_first 3 (decimal m ∷ rest) ≡ Some m
unfolding layer_first
layer_found m rest is = layer_again 3 m (omega arith) (layer_least m is) (layer_most m is)

lower_found : (m : ℕ) (rest : List (List ℕ)) → 1 ≤ m → m ≤ 2 → layer_first 2 (decimal m ∷ rest) ≡ Some m
unfolding layer_first
lower_found m rest some most = layer_again 2 m (omega arith) some most

trust_read : (t : Trust) (rest : List (List ℕ)) → trust_first (trust_word t ∷ rest) ≡ Some t
unfolding trust_first
trust_read t rest = trust_word_in t

kind_read : (k : KeyKind) (rest : List (List ℕ)) → kind_first (kind_word k ∷ rest) ≡ Some k
unfolding kind_first
kind_read k rest = kind_word_in k

with_it : {A : Type 0} (o : Option A) (a : A) (next : A → FoundTest) (x : FoundTest) → o ≡ Some a → next a ≡ x → with_value o next ≡ x
with_it {A} o a next x is then = ap (λ (p : Option A). with_value p next) is ∙ then

owner_again : (items : List PolicyItem) (m : ℕ) (set : HashSet) (rest : List (List ℕ)) → IsTrue (is_layer_number m) → HasSet items set
    → reads_owner items (decimal m ∷ set.name ∷ rest) ≡ Some (owner_in_set m set, rest)
unfolding reads_owner
owner_again items m set rest is has =
    with_it (layer_first 3 (decimal m ∷ set.name ∷ rest)) m _ _ (layer_found m (set.name ∷ rest) is) (with_it (set_first items (set.name ∷ rest)) set _ _ (set_again items set rest has) refl)

code_again : (items : List PolicyItem) (m : ℕ) (set : HashSet) (rest : List (List ℕ)) → IsTrue (is_layer_number m) → HasSet items set
    → reads_code items (decimal m ∷ set.name ∷ rest) ≡ Some (code_in_set m set, rest)
unfolding reads_code
code_again items m set rest is has =
    with_it (layer_first 3 (decimal m ∷ set.name ∷ rest)) m _ _ (layer_found m (set.name ∷ rest) is) (with_it (set_first items (set.name ∷ rest)) set _ _ (set_again items set rest has) refl)

version_again : (m least most : ℕ) (rest : List (List ℕ)) → IsTrue (is_layer_number m) → least ≤ number_limit → most ≤ number_limit
    → reads_version (decimal m ∷ decimal least ∷ decimal most ∷ rest) ≡ Some (version_between m least most, rest)
unfolding reads_version
version_again m least most rest is low high =
    with_it (layer_first 3 (decimal m ∷ decimal least ∷ decimal most ∷ rest)) m _ _ (layer_found m (decimal least ∷ decimal most ∷ rest) is)
    (with_it (number_first (decimal least ∷ decimal most ∷ rest)) least _ _ (number_again least (decimal most ∷ rest) low)
    (with_it (number_first (decimal most ∷ rest)) most _ _ (number_again most rest high) refl))

trust_again : (m lower : ℕ) (t : Trust) (rest : List (List ℕ)) → IsTrue (is_layer_number m) → 1 ≤ lower → lower ≤ 2
    → reads_trust (decimal m ∷ decimal lower ∷ trust_word t ∷ rest) ≡ Some (trust_is m lower t, rest)
unfolding reads_trust
trust_again m lower t rest is some most =
    with_it (layer_first 3 (decimal m ∷ decimal lower ∷ trust_word t ∷ rest)) m _ _ (layer_found m (decimal lower ∷ trust_word t ∷ rest) is)
    (with_it (layer_first 2 (decimal lower ∷ trust_word t ∷ rest)) lower _ _ (lower_found lower (trust_word t ∷ rest) some most)
    (with_it (trust_first (trust_word t ∷ rest)) t _ _ (trust_read t rest) refl))

reliable_again : (m : ℕ) (rest : List (List ℕ)) → IsTrue (is_layer_number m) → reads_reliable (decimal m ∷ rest) ≡ Some (reliable_at m, rest)
unfolding reads_reliable
reliable_again m rest is = with_it (layer_first 3 (decimal m ∷ rest)) m _ _ (layer_found m rest is) refl

numbers_again : (least most : ℕ) (rest : List (List ℕ)) → least ≤ number_limit → most ≤ number_limit
    → reads_numbers (decimal least ∷ decimal most ∷ rest) ≡ Some (number_between least most, rest)
unfolding reads_numbers
numbers_again least most rest low high =
    with_it (number_first (decimal least ∷ decimal most ∷ rest)) least _ _ (number_again least (decimal most ∷ rest) low)
    (with_it (number_first (decimal most ∷ rest)) most _ _ (number_again most rest high) refl)

kind_again : (k : KeyKind) (rest : List (List ℕ)) → reads_kind (kind_word k ∷ rest) ≡ Some (kind_is k, rest)
unfolding reads_kind
kind_again k rest = with_it (kind_first (kind_word k ∷ rest)) k _ _ (kind_read k rest) refl

input_again : (items : List PolicyItem) (set : HashSet) (rest : List (List ℕ)) → HasSet items set → reads_input items (set.name ∷ rest) ≡ Some (input_in set, rest)
unfolding reads_input
input_again items set rest has = with_it (set_first items (set.name ∷ rest)) set _ _ (set_again items set rest has) refl

answer_again : (items : List PolicyItem) (set : HashSet) (rest : List (List ℕ)) → HasSet items set → reads_answer items (set.name ∷ rest) ≡ Some (answer_in set, rest)
unfolding reads_answer
answer_again items set rest has = with_it (set_first items (set.name ∷ rest)) set _ _ (set_again items set rest has) refl

after_word : (items : List PolicyItem) (depth : ℕ) (k : Keyword) (rest : List (List ℕ)) → reads items (suc depth) (first_of_test k ∷ rest) ≡ reads_after items (reads items depth) (Some k) rest
unfolding reads
after_word items depth k rest = ap (λ (o : Option Keyword). reads_after items (reads items depth) o rest) (keyword_word k)

pair_again : (items : List PolicyItem) (depth : ℕ) (it : Pairing) (a b : Test) (rest : List (List ℕ))
    → reads items depth (test_words a ++ (test_words b ++ rest)) ≡ Some (a, test_words b ++ rest) → reads items depth (test_words b ++ rest) ≡ Some (b, rest)
    → reads_after items (reads items depth) (Some (keyword.Pair it)) ((test_words a ++ test_words b) ++ rest) ≡ Some (pair_test it a b, rest)
pair_again items depth it a b rest first second =
    ap (λ (ws : List (List ℕ)). reads_after items (reads items depth) (Some (keyword.Pair it)) ws) (append_assoc (test_words a) (test_words b) rest)
    ∙ with_it (reads items depth (test_words a ++ (test_words b ++ rest))) (a, test_words b ++ rest) _ _ first
    (with_it (reads items depth (test_words b ++ rest)) (b, rest) _ _ second refl)

depth_some : (test : Test) → 1 ≤ test_depth test
depth_some (both_of a b) = omega arith
depth_some (either_of a b) = omega arith
depth_some (opposite a) = omega arith
depth_some (owner_in_set m set) = omega arith
depth_some (code_in_set m set) = omega arith
depth_some (version_between m least most) = omega arith
depth_some (trust_is m lower t) = omega arith
depth_some (reliable_at m) = omega arith
depth_some (number_between least most) = omega arith
depth_some comes_first = omega arith
depth_some comes_last = omega arith
depth_some (kind_is k) = omega arith
depth_some key_lives = omega arith
depth_some has_statement = omega arith
depth_some has_call = omega arith
depth_some (input_in set) = omega arith
depth_some (answer_in set) = omega arith

pub reads_all : (items : List PolicyItem) (test : Test) (depth : ℕ) (rest : List (List ℕ)) → MayFollow items test → test_depth test ≤ suc depth
    → reads items (suc depth) (test_words test ++ rest) ≡ Some (test, rest)
reads_all items (both_of a b) zero rest follows deep = absurd (omega (arith, deep, depth_some a))
reads_all items (both_of a b) (suc depth) rest follows deep =
    after_word items (suc depth) (keyword.Pair pairing.And) ((test_words a ++ test_words b) ++ rest)
    ∙ pair_again items (suc depth) pairing.And a b rest (reads_all items a depth (test_words b ++ rest) follows.0 (omega (arith, deep))) (reads_all items b depth rest follows.1 (omega (arith, deep)))
reads_all items (either_of a b) zero rest follows deep = absurd (omega (arith, deep, depth_some a))
reads_all items (either_of a b) (suc depth) rest follows deep =
    after_word items (suc depth) (keyword.Pair pairing.Or) ((test_words a ++ test_words b) ++ rest)
    ∙ pair_again items (suc depth) pairing.Or a b rest (reads_all items a depth (test_words b ++ rest) follows.0 (omega (arith, deep))) (reads_all items b depth rest follows.1 (omega (arith, deep)))
reads_all items (opposite a) zero rest follows deep = absurd (omega (arith, deep, depth_some a))
reads_all items (opposite a) (suc depth) rest follows deep =
    after_word items (suc depth) keyword.Not (test_words a ++ rest)
    ∙ with_it (reads items (suc depth) (test_words a ++ rest)) (a, rest) _ _ (reads_all items a depth rest follows (omega (arith, deep))) refl
reads_all items (owner_in_set m set) depth rest follows deep = after_word items depth (keyword.Leaf leaf.Owner) (decimal m ∷ set.name ∷ rest) ∙ owner_again items m set rest follows.0 follows.1
reads_all items (code_in_set m set) depth rest follows deep = after_word items depth (keyword.Leaf leaf.Code) (decimal m ∷ set.name ∷ rest) ∙ code_again items m set rest follows.0 follows.1
reads_all items (version_between m least most) depth rest follows deep =
    after_word items depth (keyword.Leaf leaf.Version) (decimal m ∷ decimal least ∷ decimal most ∷ rest) ∙ version_again m least most rest follows.0 follows.1 follows.2
reads_all items (trust_is m lower t) depth rest follows deep =
    after_word items depth (keyword.Leaf leaf.Trust) (decimal m ∷ decimal lower ∷ trust_word t ∷ rest) ∙ trust_again m lower t rest follows.0 follows.1 follows.2
reads_all items (reliable_at m) depth rest follows deep = after_word items depth (keyword.Leaf leaf.Reliable) (decimal m ∷ rest) ∙ reliable_again m rest follows
reads_all items (number_between least most) depth rest follows deep =
    after_word items depth (keyword.Leaf leaf.Number) (decimal least ∷ decimal most ∷ rest) ∙ numbers_again least most rest follows.0 follows.1
reads_all items comes_first depth rest follows deep = after_word items depth (keyword.Leaf leaf.First) rest
reads_all items comes_last depth rest follows deep = after_word items depth (keyword.Leaf leaf.Last) rest
reads_all items (kind_is k) depth rest follows deep = after_word items depth (keyword.Leaf leaf.Kind) (kind_word k ∷ rest) ∙ kind_again k rest
reads_all items key_lives depth rest follows deep = after_word items depth (keyword.Leaf leaf.Alive) rest
reads_all items has_statement depth rest follows deep = after_word items depth (keyword.Leaf leaf.Statement) rest
reads_all items has_call depth rest follows deep = after_word items depth (keyword.Leaf leaf.Called) rest
reads_all items (input_in set) depth rest follows deep = after_word items depth (keyword.Leaf leaf.Input) (set.name ∷ rest) ∙ input_again items set rest follows
reads_all items (answer_in set) depth rest follows deep = after_word items depth (keyword.Leaf leaf.Answer) (set.name ∷ rest) ∙ answer_again items set rest follows

-- ---- whole lines of words

pub said_whole : (items : List PolicyItem) (words : List (List ℕ)) (test : Test) (rest : List (List ℕ)) → reads items 32 words ≡ Some (test, rest) → rest ≡ [] → SaysTest items words test
said_whole items words test rest e over =
    let begins = reads_sound items 32 words (test, rest) e in
    record {
      spelled = begins.whole ∙ ap (λ (ws : List (List ℕ)). test_words test ++ ws) over ∙ append-nil (test_words test);
      follows = begins.follows;
      shallow = begins.shallow;
    }

pub found_whole : (items : List PolicyItem) (words : List (List ℕ)) (test : Test) → SaysTest items words test → reads items 32 words ≡ Some (test, [])
found_whole items words test is = ap (reads items 32) (is.spelled ∙ sym (append-nil (test_words test))) ∙ reads_all items test 31 [] is.follows is.shallow

pub not_said : (items : List PolicyItem) (words : List (List ℕ)) → reads items 32 words ≡ None → (test : Test) → SaysTest items words test → ⊥
not_said items words none test is = let found = found_whole items words test is in absurd cc

pub more_than_said : (items : List PolicyItem) (words rest : List (List ℕ)) (first : Test) (word : List ℕ) (more : List (List ℕ)) → reads items 32 words ≡ Some (first, rest) → rest ≡ word ∷ more
    → (test : Test) → SaysTest items words test → ⊥
more_than_said items words rest first word more e some test is =
    let over : word ∷ more ≡ [] = sym some ∙ ap (λ (p : Test × List (List ℕ)). p.1) (same_pair (first, rest) (test, []) (sym e ∙ found_whole items words test is)) in
    omega (arith, ap length over)

pub SaysTest-same : (items : List PolicyItem) (words : List (List ℕ)) (a b : Test) → SaysTest items words a → SaysTest items words b → a ≡ b
SaysTest-same items words a b is other =
    ap (λ (p : Test × List (List ℕ)). p.0) (same_pair (a, []) (b, []) (sym (found_whole items words a is) ∙ found_whole items words b other))
