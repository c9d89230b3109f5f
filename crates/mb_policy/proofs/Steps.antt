-- How reading goes on after the first word of a test.
use Rattle.std.proofs.Common.{◌≡◌, ℕ, zero, suc, ◌-◌, List, [], ◌∷◌, Option, Some, None, Result, Ok, Err, refl, sym, ap, subst, ◌∙◌, arith}
use Rattle.std.specs.Prelude.{ok_or}
use Rattle.mb_words.specs.declared.said.NotSaid.{NotSaid}
use Rattle.mb_words.specs.declared.said.NotSaid.TheVariants as why
use Rattle.mb_words.specs.Words.{FindsSome}
use Rattle.mb_policy.specs.declared.keyword.Keyword.{Keyword}
use Rattle.mb_policy.specs.declared.keyword.Keyword.TheVariants as keyword
use Rattle.mb_policy.specs.declared.keyword.Pairing.{Pairing}
use Rattle.mb_policy.specs.declared.policy.Test.{Test as Node}
use Rattle.mb_policy.specs.Policies.{Test, opposite, PolicyItem}
use Rattle.mb_policy.specs.Reading.{FoundTest, first_of_test, with_value, pair_test, reads_after, reads}
use Rattle.mb_policy.specs.Meanings.{test_meant, GivesLeaf, GivesTest, MakesTest, MakesPair, MakesOpposite, SaysTest, ReadsTest, EndsTest}
use Rattle.mb_policy.proofs.Leaves.{keyword_given}
use Rattle.mb_policy.proofs.Exact.{said_whole, not_said, more_than_said}

pub step : (items : List PolicyItem) (depth : ℕ) (words : List (List ℕ)) (word : List ℕ) (rest : List (List ℕ)) (k : Option Keyword) → (depth ≡ 0 → ⊥) → words ≡ word ∷ rest
    → FindsSome (λ key. word ≡ first_of_test key) k → reads items depth words ≡ reads_after items (reads items (depth - 1)) k rest
unfolding reads
step items zero words word rest k some is key = absurd (some refl)
step items (suc d) words word rest k some is key =
    let less : suc d - 1 ≡ d = omega arith in
    ap (reads items (suc d)) is
    ∙ ap (λ (o : Option Keyword). reads_after items (reads items d) o rest) (keyword_given word k key)
    ∙ ap (λ (n : ℕ). reads_after items (reads items n) k rest) (sym less)

pub nothing_at : (items : List PolicyItem) (depth : ℕ) (words : List (List ℕ)) → depth ≡ 0 → reads items depth words ≡ None
unfolding reads
nothing_at items depth words is = ap (λ (d : ℕ). reads items d words) is

pub nothing_left : (items : List PolicyItem) (depth : ℕ) (words : List (List ℕ)) → words ≡ [] → reads items depth words ≡ None
unfolding reads
nothing_left items zero words is = refl
nothing_left items (suc d) words is = ap (reads items (suc d)) is

-- what fails within fails outside, for the same reason
pub fails : (items : List PolicyItem) (inner outer : FoundTest) (e : NotSaid) (mid after : List (List ℕ)) → (inner ≡ None → outer ≡ None) → GivesTest inner items (Err e) mid → GivesTest outer items (Err e) after
fails items inner outer why.Form mid after on none = on none
fails items inner outer why.NoMemory mid after on none = tt

pub first_none : (items : List PolicyItem) (inner : List (List ℕ) → FoundTest) (it : Pairing) (rest : List (List ℕ)) → inner rest ≡ None → reads_after items inner (Some (keyword.Pair it)) rest ≡ None
first_none items inner it rest e =
    ap (λ (r : FoundTest). with_value r (λ a. with_value (inner a.1) (λ b. Some (pair_test it a.0 b.0, b.1)))) e

pub second_none : (items : List PolicyItem) (inner : List (List ℕ) → FoundTest) (it : Pairing) (rest mid : List (List ℕ)) (a : Test) → inner rest ≡ Some (a, mid) → inner mid ≡ None
    → reads_after items inner (Some (keyword.Pair it)) rest ≡ None
second_none items inner it rest mid a first e =
    ap (λ (r : FoundTest). with_value r (λ x. with_value (inner x.1) (λ y. Some (pair_test it x.0 y.0, y.1)))) first
    ∙ ap (λ (r : FoundTest). with_value r (λ y. Some (pair_test it a y.0, y.1))) e

pair_found : (items : List PolicyItem) (inner : List (List ℕ) → FoundTest) (it : Pairing) (rest mid after : List (List ℕ)) (a b : Test) → inner rest ≡ Some (a, mid) → inner mid ≡ Some (b, after)
    → reads_after items inner (Some (keyword.Pair it)) rest ≡ Some (pair_test it a b, after)
pair_found items inner it rest mid after a b first second =
    ap (λ (r : FoundTest). with_value r (λ x. with_value (inner x.1) (λ y. Some (pair_test it x.0 y.0, y.1)))) first
    ∙ ap (λ (r : FoundTest). with_value r (λ y. Some (pair_test it a y.0, y.1))) second

-- what is made of what was found is given
made : (items : List PolicyItem) (found : FoundTest) (meaning : List PolicyItem → Test) (after : List (List ℕ)) (result : Result Node NotSaid)
    → found ≡ Some (meaning items, after) → MakesTest meaning result → GivesTest found items result after
made items found meaning after (Ok x) is makes = is ∙ ap (λ (t : Test). Some (t, after)) (sym (makes items))
made items found meaning after (Err why.Form) is makes = absurd makes
made items found meaning after (Err why.NoMemory) is makes = tt

pub pair_given : (items : List PolicyItem) (depth : ℕ) (it : Pairing) (words rest mid after : List (List ℕ)) (a b : Node) (result : Result Node NotSaid)
    → reads items depth words ≡ reads_after items (reads items (depth - 1)) (Some (keyword.Pair it)) rest
    → reads items (depth - 1) rest ≡ Some (test_meant items a, mid) → reads items (depth - 1) mid ≡ Some (test_meant items b, after) → MakesPair it a b result
    → GivesTest (reads items depth words) items result after
pair_given items depth it words rest mid after a b result is first second makes =
    made items (reads items depth words) (λ (before : List PolicyItem). pair_test it (test_meant before a) (test_meant before b)) after result
    (is ∙ pair_found items (reads items (depth - 1)) it rest mid after (test_meant items a) (test_meant items b) first second) makes

pub not_none : (items : List PolicyItem) (inner : List (List ℕ) → FoundTest) (rest : List (List ℕ)) → inner rest ≡ None → reads_after items inner (Some keyword.Not) rest ≡ None
not_none items inner rest e = ap (λ (r : FoundTest). with_value r (λ a. Some (opposite a.0, a.1))) e

pub not_given : (items : List PolicyItem) (depth : ℕ) (words rest after : List (List ℕ)) (a : Node) (result : Result Node NotSaid)
    → reads items depth words ≡ reads_after items (reads items (depth - 1)) (Some keyword.Not) rest
    → reads items (depth - 1) rest ≡ Some (test_meant items a, after) → MakesOpposite a result → GivesTest (reads items depth words) items result after
not_given items depth words rest after a result is first makes =
    made items (reads items depth words) (λ (before : List PolicyItem). opposite (test_meant before a)) after result
    (is ∙ ap (λ (r : FoundTest). with_value r (λ x. Some (opposite x.0, x.1))) first) makes

pub leaf_given : (items : List PolicyItem) (outer inner : FoundTest) (test : Option Node) (after : List (List ℕ)) (result : Result Node NotSaid) → outer ≡ inner → GivesLeaf inner items test after → result ≡ ok_or test why.Form
    → GivesTest outer items result after
leaf_given items outer inner (Some x) after result is gives says = subst (λ (r : Result Node NotSaid). GivesTest outer items r after) (sym says) (is ∙ gives)
leaf_given items outer inner None after result is gives says = subst (λ (r : Result Node NotSaid). GivesTest outer items r after) (sym says) (is ∙ gives)

-- ---- all words of a test

pub test_ended : (items : List PolicyItem) (words left : List (List ℕ)) (test : Node) (result : Result Node NotSaid) → reads items 32 words ≡ Some (test_meant items test, left) → EndsTest left test result
    → ReadsTest items words result
test_ended items words left test (Ok given) read ends =
    subst (λ (t : Node). SaysTest items words (test_meant items t)) (sym ends.1) (said_whole items words (test_meant items test) left read ends.0)
test_ended items words left test (Err why.Form) read ends = λ other is. more_than_said items words left (test_meant items test) ends.0 ends.1 read ends.2 other is
test_ended items words left test (Err why.NoMemory) read ends = absurd ends

pub test_failed : (items : List PolicyItem) (words : List (List ℕ)) (e : NotSaid) (after : List (List ℕ)) → GivesTest (reads items 32 words) items (Err e) after → ReadsTest items words (Err e)
test_failed items words why.Form after none = λ test is. not_said items words none test is
test_failed items words why.NoMemory after none = tt
