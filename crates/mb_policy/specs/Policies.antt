-- What a relying party's policy is, and which lines say it. Does a text say one policy, and nothing else?
use Rattle.std.specs.Prelude.{◌≡◌, ◌≢◌, ℕ, ◌+◌, ◌≤◌, ◌==◌, max, Bool, true, false, not, IsTrue, Option, Some, None}
use Rattle.std.specs.Prelude.{List, [], ◌∷◌, ◌++◌, length, codes, filter, if◌then◌else◌}
use Rattle.std.specs.List.{AllZip, slice_split, list_any}
use Rattle.std.specs.Fmt.{decimal}
use Rattle.mb_format.specs.Combinators.{same_bytes}
use Rattle.mb_model.specs.declared.key.Trust.{Trust}
use Rattle.mb_model.specs.declared.order.KeyKind.{KeyKind}
use Rattle.mb_model.specs.outside.Texts.{IsHex}
use Rattle.mb_model.specs.owners.Layers.{is_layer_number}
use Rattle.mb_model.specs.chains.Lines.{number_limit}
use Rattle.mb_model.specs.chains.Drafts.{trust_word, kind_word}
use Rattle.mb_model.specs.chains.Script.{IsName, is_skipped}
use Rattle.mb_policy.specs.declared.limits.TheConstants.{LINE_LIMIT, HASH_LIMIT, DEPTH_LIMIT}

-- ---- policies

-- a set of hashes, and its name
pub record HashSet : Type 0 where
  pub name : List ℕ
  pub hashes : List (List ℕ)

-- What a rule asks of a configuration in which a key lived, and of the report on that key. A layer is given by its
-- number. A test holds its set, and not the set's name, so that judging needs no names. The code keeps the index of the
-- set's line.
pub data Test : Type 0 where
  both_of either_of : Test → Test → Test
  opposite : Test → Test
  owner_in_set code_in_set : ℕ → HashSet → Test
  version_between : ℕ → ℕ → ℕ → Test
  trust_is : ℕ → ℕ → Trust → Test
  reliable_at : ℕ → Test
  number_between : ℕ → ℕ → Test
  comes_first comes_last : Test
  kind_is : KeyKind → Test
  key_lives has_statement has_call : Test
  input_in answer_in : HashSet → Test

-- a rule: its name, whether it allows or denies, and when it applies
pub record PolicyRule : Type 0 where
  pub name : List ℕ
  pub allows : Bool
  pub test : Test

-- what a line says
pub data PolicyItem : Type 0 where
  set_item : HashSet → PolicyItem
  rule_item : PolicyRule → PolicyItem

-- ---- words

-- the words of a line: what stands between its spaces
unfoldable pub line_words : List ℕ → List (List ℕ)
line_words line = slice_split (λ byte. byte == 32) line

-- The words that say a test. Two laws say that reading finds what these words say and nothing else, so that the proof
-- grows with the number of tests, and not with its square.
abbrev pub test_words : Test → List (List ℕ)
test_words (both_of a b) = codes "and" ∷ test_words a ++ test_words b
test_words (either_of a b) = codes "or" ∷ test_words a ++ test_words b
test_words (opposite a) = codes "not" ∷ test_words a
test_words (owner_in_set layer set) = codes "owner" ∷ decimal layer ∷ set.name ∷ []
test_words (code_in_set layer set) = codes "code" ∷ decimal layer ∷ set.name ∷ []
test_words (version_between layer least most) = codes "version" ∷ decimal layer ∷ decimal least ∷ decimal most ∷ []
test_words (trust_is layer lower trust) = codes "trust" ∷ decimal layer ∷ decimal lower ∷ trust_word trust ∷ []
test_words (reliable_at layer) = codes "reliable" ∷ decimal layer ∷ []
test_words (number_between least most) = codes "number" ∷ decimal least ∷ decimal most ∷ []
test_words comes_first = codes "first" ∷ []
test_words comes_last = codes "last" ∷ []
test_words (kind_is kind) = codes "kind" ∷ kind_word kind ∷ []
test_words key_lives = codes "alive" ∷ []
test_words has_statement = codes "statement" ∷ []
test_words has_call = codes "called" ∷ []
test_words (input_in set) = codes "input" ∷ set.name ∷ []
test_words (answer_in set) = codes "answer" ∷ set.name ∷ []

-- ---- which tests may stand where

-- how deep a test is nested: 1, and one more for each `and`, `or` and `not` around the innermost test
abbrev pub test_depth : Test → ℕ
test_depth (both_of a b) = max (test_depth a) (test_depth b) + 1
test_depth (either_of a b) = max (test_depth a) (test_depth b) + 1
test_depth (opposite a) = test_depth a + 1
test_depth _ = 1

-- the set with this name among the items, the first if there are more
abbrev pub set_named : List PolicyItem → List ℕ → Option HashSet
set_named [] name = None
set_named (set_item set ∷ rest) name = if same_bytes set.name name then Some set else set_named rest name
set_named (rule_item rule ∷ rest) name = set_named rest name

-- the item is the rule with this name
abbrev pub is_rule_named : List ℕ → PolicyItem → Bool
is_rule_named name (set_item set) = false
is_rule_named name (rule_item rule) = same_bytes rule.name name

-- the first set with this set's name among the items is this set
abbrev pub HasSet : List PolicyItem → HashSet → Type 0
HasSet items set = set_named items set.name ≡ Some set

-- A test that may stand after these items: layers are 1 to 3, the lower layer of a trust is 1 or 2, numbers are at most
-- 4,294,967,295, and the items have each set that it names.
abbrev pub MayFollow : List PolicyItem → Test → Type 0
MayFollow before (both_of a b) = MayFollow before a × MayFollow before b
MayFollow before (either_of a b) = MayFollow before a × MayFollow before b
MayFollow before (opposite a) = MayFollow before a
MayFollow before (owner_in_set layer set) = IsTrue (is_layer_number layer) × HasSet before set
MayFollow before (code_in_set layer set) = IsTrue (is_layer_number layer) × HasSet before set
MayFollow before (version_between layer least most) =
    IsTrue (is_layer_number layer) × (least ≤ number_limit) × (most ≤ number_limit)
MayFollow before (trust_is layer lower trust) = IsTrue (is_layer_number layer) × (1 ≤ lower) × (lower ≤ 2)
MayFollow before (reliable_at layer) = IsTrue (is_layer_number layer)
MayFollow before (number_between least most) = (least ≤ number_limit) × (most ≤ number_limit)
MayFollow before (input_in set) = HasSet before set
MayFollow before (answer_in set) = HasSet before set
MayFollow before _ = Unit {0}

-- ---- lines

-- a word is a hash of 32 bytes in hexadecimal
abbrev pub IsHashWord : List ℕ → List ℕ → Type 0
IsHashWord word hash = (length hash ≡ 32) × IsHex word hash

-- The words are `set`, a name that no set before has, and 1 to 64 hashes. A hash may come twice.
pub record SaysSet (before : List PolicyItem) (words : List (List ℕ)) (set : HashSet) : Type 0 where
  pub hash_words : List (List ℕ)
  pub spelled : words ≡ codes "set" ∷ set.name ∷ hash_words
  pub named : IsName set.name
  pub new : set_named before set.name ≡ None
  pub said : AllZip IsHashWord hash_words set.hashes
  pub some : 1 ≤ length set.hashes
  pub few : length set.hashes ≤ HASH_LIMIT

abbrev pub verb_word : Bool → List ℕ
verb_word true = codes "allow"
verb_word false = codes "deny"

-- The words are `allow` or `deny`, a name that no rule before has, and a test. No rule is named `default`.
pub record SaysRule (before : List PolicyItem) (words : List (List ℕ)) (rule : PolicyRule) : Type 0 where
  pub spelled : words ≡ verb_word rule.allows ∷ rule.name ∷ test_words rule.test
  pub named : IsName rule.name
  pub no_default : rule.name ≢ codes "default"
  pub new : list_any (is_rule_named rule.name) before ≡ false
  pub follows : MayFollow before rule.test
  pub shallow : test_depth rule.test ≤ DEPTH_LIMIT

-- a line says an item after others
abbrev pub SaysItem : List PolicyItem → List ℕ → PolicyItem → Type 0
SaysItem before line (set_item set) = SaysSet before (line_words line) set
SaysItem before line (rule_item rule) = SaysRule before (line_words line) rule

-- lines say items, each after those before it
abbrev pub SayItems : List PolicyItem → List (List ℕ) → List PolicyItem → Type 0
SayItems before [] items = items ≡ []
SayItems before (line ∷ lines) [] = ⊥
SayItems before (line ∷ lines) (item ∷ items) = SaysItem before line item × SayItems (before ++ item ∷ []) lines items

-- The lines of a policy say these items: one for each line that is not skipped, in order, at most 256.
pub record IsPolicy (lines : List (List ℕ)) (items : List PolicyItem) : Type 0 where
  pub said : SayItems [] (filter (λ line. not (is_skipped line)) lines) items
  pub few : length items ≤ LINE_LIMIT
