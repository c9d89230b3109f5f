-- How the test at the front of words is read by computing. No clause of a public call speaks of it.
use Rattle.std.specs.Prelude.{ℕ, zero, suc, nat_le, ◌&&◌, List, [], ◌∷◌, codes, Option, None, Some, if◌then◌else◌}
use Rattle.std.specs.Fmt.{decimal}
use Rattle.std.specs.Str.Parse.{digits_value}
use Rattle.mb_format.specs.Combinators.{same_bytes}
use Rattle.mb_model.specs.declared.key.Trust.{Trust}
use Rattle.mb_model.specs.declared.key.Trust.TheVariants as trust
use Rattle.mb_model.specs.declared.order.KeyKind.{KeyKind}
use Rattle.mb_model.specs.declared.order.KeyKind.TheVariants as kinds
use Rattle.mb_model.specs.chains.Lines.{number_limit}
use Rattle.mb_model.specs.chains.Drafts.{trust_word, kind_word}
use Rattle.mb_policy.specs.declared.keyword.Verb.{Verb}
use Rattle.mb_policy.specs.declared.keyword.Verb.TheVariants as verb
use Rattle.mb_policy.specs.declared.keyword.Keyword.{Keyword}
use Rattle.mb_policy.specs.declared.keyword.Keyword.TheVariants as keyword
use Rattle.mb_policy.specs.declared.keyword.Pairing.{Pairing}
use Rattle.mb_policy.specs.declared.keyword.Pairing.TheVariants as pairing
use Rattle.mb_policy.specs.declared.keyword.Leaf.{Leaf}
use Rattle.mb_policy.specs.declared.keyword.Leaf.TheVariants as leaf
use Rattle.mb_policy.specs.Policies.{Test, both_of, either_of, opposite, owner_in_set, code_in_set, version_between}
use Rattle.mb_policy.specs.Policies.{trust_is}
use Rattle.mb_policy.specs.Policies.{reliable_at, number_between, comes_first, comes_last, kind_is, key_lives}
use Rattle.mb_policy.specs.Policies.{has_statement, has_call, input_in, answer_in}
use Rattle.mb_policy.specs.Policies.{HashSet, PolicyItem, set_named}

-- ---- words that stand for a value

abbrev pub verb_name : Verb → List ℕ
verb_name verb.Set = codes "set"
verb_name verb.Allow = codes "allow"
verb_name verb.Deny = codes "deny"

abbrev pub leaf_word : Leaf → List ℕ
leaf_word leaf.Owner = codes "owner"
leaf_word leaf.Code = codes "code"
leaf_word leaf.Version = codes "version"
leaf_word leaf.Trust = codes "trust"
leaf_word leaf.Reliable = codes "reliable"
leaf_word leaf.Number = codes "number"
leaf_word leaf.First = codes "first"
leaf_word leaf.Last = codes "last"
leaf_word leaf.Kind = codes "kind"
leaf_word leaf.Alive = codes "alive"
leaf_word leaf.Statement = codes "statement"
leaf_word leaf.Called = codes "called"
leaf_word leaf.Input = codes "input"
leaf_word leaf.Answer = codes "answer"

-- the first word of a test
abbrev pub first_of_test : Keyword → List ℕ
first_of_test (keyword.Pair pairing.And) = codes "and"
first_of_test (keyword.Pair pairing.Or) = codes "or"
first_of_test keyword.Not = codes "not"
first_of_test (keyword.Leaf it) = leaf_word it

abbrev pub every_keyword : List Keyword
every_keyword =
    keyword.Pair pairing.And ∷ keyword.Pair pairing.Or ∷ keyword.Not ∷ keyword.Leaf leaf.Owner ∷ keyword.Leaf leaf.Code
    ∷ keyword.Leaf leaf.Version ∷ keyword.Leaf leaf.Trust ∷ keyword.Leaf leaf.Reliable ∷ keyword.Leaf leaf.Number
    ∷ keyword.Leaf leaf.First ∷ keyword.Leaf leaf.Last ∷ keyword.Leaf leaf.Kind ∷ keyword.Leaf leaf.Alive
    ∷ keyword.Leaf leaf.Statement ∷ keyword.Leaf leaf.Called ∷ keyword.Leaf leaf.Input ∷ keyword.Leaf leaf.Answer ∷ []

-- the first of these values that the word means
abbrev pub meant_by : {A : Type 0} → (A → List ℕ) → List A → List ℕ → Option A
meant_by spell [] word = None
meant_by spell (a ∷ rest) word = if same_bytes word (spell a) then Some a else meant_by spell rest word

unfoldable pub keyword_in : List ℕ → Option Keyword
keyword_in word = meant_by first_of_test every_keyword word

unfoldable pub trust_in : List ℕ → Option Trust
trust_in word = meant_by trust_word (trust.Always ∷ trust.Never ∷ trust.Countersigned ∷ []) word

unfoldable pub kind_in : List ℕ → Option KeyKind
kind_in word = meant_by kind_word (kinds.Epoch ∷ kinds.Configuration ∷ []) word

-- the number that a word is, if it is not above a limit
unfoldable pub number_in : ℕ → List ℕ → Option ℕ
number_in most word =
    if same_bytes word (decimal (digits_value 10 word)) && nat_le (digits_value 10 word) most
    then Some (digits_value 10 word)
    else None

-- a number that is not 0
abbrev pub positive : Option ℕ → Option ℕ
positive None = None
positive (Some zero) = None
positive (Some (suc n)) = Some (suc n)

-- the number of a layer that a word is, 1 to `last`
unfoldable pub layer_in : ℕ → List ℕ → Option ℕ
layer_in last word = positive (number_in last word)

-- ---- the next word

abbrev pub later_words : List (List ℕ) → List (List ℕ)
later_words [] = []
later_words (word ∷ rest) = rest

unfoldable pub number_first : List (List ℕ) → Option ℕ
number_first [] = None
number_first (word ∷ rest) = number_in number_limit word

unfoldable pub layer_first : ℕ → List (List ℕ) → Option ℕ
layer_first last [] = None
layer_first last (word ∷ rest) = layer_in last word

unfoldable pub trust_first : List (List ℕ) → Option Trust
trust_first [] = None
trust_first (word ∷ rest) = trust_in word

unfoldable pub kind_first : List (List ℕ) → Option KeyKind
kind_first [] = None
kind_first (word ∷ rest) = kind_in word

unfoldable pub set_first : List PolicyItem → List (List ℕ) → Option HashSet
set_first items [] = None
set_first items (word ∷ rest) = set_named items word

-- ---- tests

-- what was read, and the words after it
abbrev pub FoundTest : Type 0
FoundTest = Option (Test × List (List ℕ))

abbrev pub with_value : {A : Type 0} → Option A → (A → FoundTest) → FoundTest
with_value None next = None
with_value (Some a) next = next a

unfoldable pub reads_owner : List PolicyItem → List (List ℕ) → FoundTest
reads_owner items words =
    with_value (layer_first 3 words) (λ layer.
    with_value (set_first items (later_words words)) (λ set.
    Some (owner_in_set layer set, later_words (later_words words))))

unfoldable pub reads_code : List PolicyItem → List (List ℕ) → FoundTest
reads_code items words =
    with_value (layer_first 3 words) (λ layer.
    with_value (set_first items (later_words words)) (λ set.
    Some (code_in_set layer set, later_words (later_words words))))

unfoldable pub reads_version : List (List ℕ) → FoundTest
reads_version words =
    with_value (layer_first 3 words) (λ layer.
    with_value (number_first (later_words words)) (λ least.
    with_value (number_first (later_words (later_words words))) (λ most.
    Some (version_between layer least most, later_words (later_words (later_words words))))))

unfoldable pub reads_trust : List (List ℕ) → FoundTest
reads_trust words =
    with_value (layer_first 3 words) (λ layer.
    with_value (layer_first 2 (later_words words)) (λ lower.
    with_value (trust_first (later_words (later_words words))) (λ trust.
    Some (trust_is layer lower trust, later_words (later_words (later_words words))))))

unfoldable pub reads_reliable : List (List ℕ) → FoundTest
reads_reliable words = with_value (layer_first 3 words) (λ layer. Some (reliable_at layer, later_words words))

unfoldable pub reads_numbers : List (List ℕ) → FoundTest
reads_numbers words =
    with_value (number_first words) (λ least.
    with_value (number_first (later_words words)) (λ most.
    Some (number_between least most, later_words (later_words words))))

unfoldable pub reads_kind : List (List ℕ) → FoundTest
reads_kind words = with_value (kind_first words) (λ kind. Some (kind_is kind, later_words words))

unfoldable pub reads_input : List PolicyItem → List (List ℕ) → FoundTest
reads_input items words = with_value (set_first items words) (λ set. Some (input_in set, later_words words))

unfoldable pub reads_answer : List PolicyItem → List (List ℕ) → FoundTest
reads_answer items words = with_value (set_first items words) (λ set. Some (answer_in set, later_words words))

abbrev pub reads_leaf : List PolicyItem → Leaf → List (List ℕ) → FoundTest
reads_leaf items leaf.Owner words = reads_owner items words
reads_leaf items leaf.Code words = reads_code items words
reads_leaf items leaf.Version words = reads_version words
reads_leaf items leaf.Trust words = reads_trust words
reads_leaf items leaf.Reliable words = reads_reliable words
reads_leaf items leaf.Number words = reads_numbers words
reads_leaf items leaf.First words = Some (comes_first, words)
reads_leaf items leaf.Last words = Some (comes_last, words)
reads_leaf items leaf.Kind words = reads_kind words
reads_leaf items leaf.Alive words = Some (key_lives, words)
reads_leaf items leaf.Statement words = Some (has_statement, words)
reads_leaf items leaf.Called words = Some (has_call, words)
reads_leaf items leaf.Input words = reads_input items words
reads_leaf items leaf.Answer words = reads_answer items words

abbrev pub pair_test : Pairing → Test → Test → Test
pair_test pairing.And a b = both_of a b
pair_test pairing.Or a b = either_of a b

-- what follows a keyword, where `inner` reads a test
abbrev pub reads_after : List PolicyItem → (List (List ℕ) → FoundTest) → Option Keyword → List (List ℕ) → FoundTest
reads_after items inner None words = None
reads_after items inner (Some (keyword.Pair it)) words =
    with_value (inner words) (λ first.
    with_value (inner first.1) (λ second. Some (pair_test it first.0 second.0, second.1)))
reads_after items inner (Some keyword.Not) words = with_value (inner words) (λ found. Some (opposite found.0, found.1))
reads_after items inner (Some (keyword.Leaf it)) words = reads_leaf items it words

-- the test at the front of the words, nested at most to this depth
unfoldable pub reads : List PolicyItem → ℕ → List (List ℕ) → FoundTest
reads items zero words = None
reads items (suc depth) [] = None
reads items (suc depth) (word ∷ words) = reads_after items (reads items depth) (keyword_in word) words
