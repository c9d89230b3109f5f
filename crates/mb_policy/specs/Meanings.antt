-- What the values of the code mean, and what reading gives.
use Rattle.std.specs.Prelude.{◌≡◌, ℕ, zero, suc, ◌≤◌, Bool, true, false, List, [], ◌∷◌, ◌++◌, length, Option, None}
use Rattle.std.specs.Prelude.{Some}
use Rattle.std.specs.Prelude.{Result, Ok, Err}
use Rattle.std.specs.List.{AllZip}
use Rattle.mb_format.specs.Combinators.{same_bytes}
use Rattle.mb_words.specs.declared.said.NotSaid.{NotSaid}
use Rattle.mb_words.specs.declared.said.NotSaid.TheVariants as why
use Rattle.mb_policy.specs.declared.keyword.Leaf.{Leaf}
use Rattle.mb_policy.specs.declared.keyword.Pairing.{Pairing}
use Rattle.mb_policy.specs.declared.policy.Policy.{Policy}
use Rattle.mb_policy.specs.declared.policy.Line.{Line}
use Rattle.mb_policy.specs.declared.policy.Line.TheVariants as line
use Rattle.mb_policy.specs.declared.policy.NamedSet.{NamedSet}
use Rattle.mb_policy.specs.declared.policy.Rule.{Rule}
use Rattle.mb_policy.specs.declared.policy.Test.{Test as Node}
use Rattle.mb_policy.specs.declared.policy.Test.TheVariants as node
use Rattle.mb_policy.specs.Policies.{Test, both_of, either_of, opposite, owner_in_set, code_in_set, version_between}
use Rattle.mb_policy.specs.Policies.{trust_is}
use Rattle.mb_policy.specs.Policies.{reliable_at, number_between, comes_first, comes_last, kind_is, key_lives}
use Rattle.mb_policy.specs.Policies.{has_statement, has_call, input_in, answer_in}
use Rattle.mb_policy.specs.Policies.{HashSet, PolicyRule, PolicyItem, set_item, rule_item, line_words}
use Rattle.mb_policy.specs.Policies.{SaysSet, SaysRule, SaysItem, verb_word, IsHashWord, test_words, test_depth}
use Rattle.mb_policy.specs.Policies.{MayFollow}
use Rattle.mb_policy.specs.declared.limits.TheConstants.{HASH_LIMIT, DEPTH_LIMIT}
use Rattle.mb_policy.specs.Reading.{FoundTest, pair_test, set_first, reads_leaf, reads_owner, reads_code, reads_input}
use Rattle.mb_policy.specs.Reading.{reads_answer, reads}

-- ---- a policy

abbrev pub set_meant : NamedSet → HashSet
set_meant set = record { name = set.name; hashes = set.hashes }

-- the set at an index of the items; none if no set stands there
abbrev pub set_found : List PolicyItem → ℕ → Option HashSet
set_found [] index = None
set_found (set_item set ∷ rest) zero = Some set
set_found (rule_item rule ∷ rest) zero = None
set_found (item ∷ rest) (suc index) = set_found rest index

-- the set that was found, or one without a name and without hashes
abbrev pub found_or_empty : Option HashSet → HashSet
found_or_empty None = record { name = []; hashes = [] }
found_or_empty (Some set) = set

abbrev pub set_at : List PolicyItem → ℕ → HashSet
set_at items index = found_or_empty (set_found items index)

-- the test of a rule that stands after these items
abbrev pub test_meant : List PolicyItem → Node → Test
test_meant items (node.And' p a q b) = both_of (test_meant items a) (test_meant items b)
test_meant items (node.Or' p a q b) = either_of (test_meant items a) (test_meant items b)
test_meant items (node.Not' p a) = opposite (test_meant items a)
test_meant items (node.Owner layer set) = owner_in_set layer (set_at items set)
test_meant items (node.Code layer set) = code_in_set layer (set_at items set)
test_meant items (node.Version layer least most) = version_between layer least most
test_meant items (node.Trust layer lower trust) = trust_is layer lower trust
test_meant items (node.Reliable layer) = reliable_at layer
test_meant items (node.Number least most) = number_between least most
test_meant items node.First = comes_first
test_meant items node.Last = comes_last
test_meant items (node.Kind kind) = kind_is kind
test_meant items node.Alive = key_lives
test_meant items node.Statement = has_statement
test_meant items node.Called = has_call
test_meant items (node.Input set) = input_in (set_at items set)
test_meant items (node.Answer set) = answer_in (set_at items set)

abbrev pub rule_meant : List PolicyItem → Rule → PolicyRule
rule_meant items rule = record { name = rule.name; allows = rule.allows; test = test_meant items rule.test }

-- the item of a line that stands after these items
abbrev pub line_meant : List PolicyItem → Line → PolicyItem
line_meant items (line.Set set) = set_item (set_meant set)
line_meant items (line.Rule rule) = rule_item (rule_meant items rule)

abbrev pub items_after : List PolicyItem → List Line → List PolicyItem
items_after before [] = []
items_after before (line ∷ rest) = line_meant before line ∷ items_after (before ++ line_meant before line ∷ []) rest

-- the items that lines mean
abbrev pub items_of : List Line → List PolicyItem
items_of lines = items_after [] lines

-- the items of a policy, as its text says them
abbrev pub policy_items : Policy → List PolicyItem
policy_items policy = items_of policy.lines

-- ---- reading

-- the words that are left
abbrev pub words_left : Bool → List ℕ → List (List ℕ)
words_left true text = line_words text
words_left false text = []

-- whether no word is left
abbrev pub MatchesNil : Bool → List (List ℕ) → Type 0
MatchesNil true words = words ≡ []
MatchesNil false words = (word : List ℕ) × (rest : List (List ℕ)) × (words ≡ word ∷ rest)

-- no word was left before, and none is left now
abbrev pub NoneLeft : List (List ℕ) → List (List ℕ) → Type 0
NoneLeft old new = (old ≡ []) × (new ≡ [])

-- ---- tests

-- what reading found is given, and the words after it are left
abbrev pub GivesLeaf : FoundTest → List PolicyItem → Option Node → List (List ℕ) → Type 0
GivesLeaf found items (Some test) after = found ≡ Some (test_meant items test, after)
GivesLeaf found items None after = found ≡ None

-- The words after the first word of a test are read. The set that they name is among the lines before.
abbrev pub ReadsLeaf : List Line → Leaf → List (List ℕ) → Option Node → List (List ℕ) → Type 0
ReadsLeaf before leaf words result after =
    GivesLeaf (reads_leaf (items_of before) leaf words) (items_of before) result after

abbrev pub ReadsOwner : List Line → List (List ℕ) → Option Node → List (List ℕ) → Type 0
ReadsOwner before words result after = GivesLeaf (reads_owner (items_of before) words) (items_of before) result after

abbrev pub ReadsCode : List Line → List (List ℕ) → Option Node → List (List ℕ) → Type 0
ReadsCode before words result after = GivesLeaf (reads_code (items_of before) words) (items_of before) result after

abbrev pub ReadsInput : List Line → List (List ℕ) → Option Node → List (List ℕ) → Type 0
ReadsInput before words result after = GivesLeaf (reads_input (items_of before) words) (items_of before) result after

abbrev pub ReadsAnswer : List Line → List (List ℕ) → Option Node → List (List ℕ) → Type 0
ReadsAnswer before words result after = GivesLeaf (reads_answer (items_of before) words) (items_of before) result after

-- what reading found of a test that names no set is given, whichever items stand before
abbrev pub GivesPlain : FoundTest → Option Node → List (List ℕ) → Type 0
GivesPlain found result after = (items : List PolicyItem) → GivesLeaf found items result after

-- what reading found is given, and the words after it are left; of a failed allocation nothing is said
abbrev pub GivesTest : FoundTest → List PolicyItem → Result Node NotSaid → List (List ℕ) → Type 0
GivesTest found items (Ok test) after = found ≡ Some (test_meant items test, after)
GivesTest found items (Err why.Form) after = found ≡ None
GivesTest found items (Err why.NoMemory) after = Unit {0}

-- The test at the front of the words is read, nested at most to this depth.
abbrev pub ReadsFirst : List Line → ℕ → List (List ℕ) → Result Node NotSaid → List (List ℕ) → Type 0
ReadsFirst before depth words result after =
    GivesTest (reads (items_of before) depth words) (items_of before) result after

-- this test is made, unless an allocation fails
abbrev pub MakesTest : (List PolicyItem → Test) → Result Node NotSaid → Type 0
MakesTest meaning (Ok made) = (items : List PolicyItem) → test_meant items made ≡ meaning items
MakesTest meaning (Err why.Form) = ⊥
MakesTest meaning (Err why.NoMemory) = Unit {0}

abbrev pub MakesPair : Pairing → Node → Node → Result Node NotSaid → Type 0
MakesPair it first second result =
    MakesTest (λ items. pair_test it (test_meant items first) (test_meant items second)) result

abbrev pub MakesOpposite : Node → Result Node NotSaid → Type 0
MakesOpposite test result = MakesTest (λ items. opposite (test_meant items test)) result

-- ---- sets and rules by their names

-- the set at the index that was found
abbrev pub set_given : List PolicyItem → Option ℕ → Option HashSet
set_given items None = None
set_given items (Some index) = Some (set_at items index)

-- the index of the set that the first of the words names
abbrev pub FindsSet : List Line → List (List ℕ) → Option ℕ → Type 0
FindsSet before words found = set_given (items_of before) found ≡ set_first (items_of before) words

abbrev pub line_has_set : List ℕ → Line → Bool
line_has_set name (line.Set set) = same_bytes set.name name
line_has_set name (line.Rule rule) = false

abbrev pub line_has_rule : List ℕ → Line → Bool
line_has_rule name (line.Set set) = false
line_has_rule name (line.Rule rule) = same_bytes rule.name name

-- ---- lines

-- the words say what was read, or they say nothing; a failed allocation leaves that open
abbrev pub ReadsItem : {A B : Type 0} → (A → B) → (B → Type 0) → Result A NotSaid → Type 0
ReadsItem meaning Says (Ok a) = Says (meaning a)
ReadsItem {B} meaning Says (Err why.Form) = (b : B) → Says b → ⊥
ReadsItem meaning Says (Err why.NoMemory) = Unit {0}

-- The words are read as those of a set: they say this set, or no set at all.
abbrev pub ReadsSet : List PolicyItem → List (List ℕ) → Result NamedSet NotSaid → Type 0
ReadsSet items words result = ReadsItem set_meant (SaysSet items words) result

-- the words after `allow`, or after `deny`, say a rule
abbrev pub SaysRuleThat : Bool → List PolicyItem → List (List ℕ) → PolicyRule → Type 0
SaysRuleThat allows items words rule = SaysRule items (verb_word allows ∷ words) rule

abbrev pub ReadsRule : Bool → List PolicyItem → List (List ℕ) → Result Rule NotSaid → Type 0
ReadsRule allows items words result = ReadsItem (rule_meant items) (SaysRuleThat allows items words) result

-- the line is read: it says this item, or none at all
abbrev pub ReadsLine : List PolicyItem → List ℕ → Result Line NotSaid → Type 0
ReadsLine items text result = ReadsItem (line_meant items) (SaysItem items text) result

-- all these words say these hashes, 1 to 64
pub record SaysHashes (words : List (List ℕ)) (hashes : List (List ℕ)) : Type 0 where
  pub said : AllZip IsHashWord words hashes
  pub some : 1 ≤ length hashes
  pub few : length hashes ≤ HASH_LIMIT

-- a set is made with this name and these hashes, unless an allocation fails
abbrev pub MakesSet : List ℕ → List (List ℕ) → Result NamedSet NotSaid → Type 0
MakesSet name hashes (Ok set) = set_meant set ≡ record { name = name; hashes = hashes }
MakesSet name hashes (Err why.Form) = ⊥
MakesSet name hashes (Err why.NoMemory) = Unit {0}

abbrev pub MakesRule : List ℕ → Bool → Node → Result Rule NotSaid → Type 0
MakesRule name allows test (Ok rule) =
    (items : List PolicyItem)
    → rule_meant items rule ≡ record { name = name; allows = allows; test = test_meant items test }
MakesRule name allows test (Err why.Form) = ⊥
MakesRule name allows test (Err why.NoMemory) = Unit {0}

-- all these words say this test
pub record SaysTest (items : List PolicyItem) (words : List (List ℕ)) (test : Test) : Type 0 where
  pub spelled : words ≡ test_words test
  pub follows : MayFollow items test
  pub shallow : test_depth test ≤ DEPTH_LIMIT

abbrev pub ReadsTest : List PolicyItem → List (List ℕ) → Result Node NotSaid → Type 0
ReadsTest items words result = ReadsItem (test_meant items) (SaysTest items words) result

-- the test is given if no word is left
abbrev pub EndsTest : List (List ℕ) → Node → Result Node NotSaid → Type 0
EndsTest words test (Ok given) = (words ≡ []) × (given ≡ test)
EndsTest words test (Err why.Form) = (word : List ℕ) × (rest : List (List ℕ)) × (words ≡ word ∷ rest)
EndsTest words test (Err why.NoMemory) = ⊥

abbrev pub FindsHashes : List (List ℕ) → Result (List (List ℕ)) NotSaid → Type 0
FindsHashes words result = ReadsItem (λ hashes. hashes) (SaysHashes words) result
