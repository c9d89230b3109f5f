-- Small policies, and what they come to; the checker computes each line. Which rule decides?
use Rattle.std.specs.Prelude.{◌≡◌, ℕ, List, [], ◌∷◌, ◌++◌, codes, replicate, None, Some, true, false}
use Rattle.sha2.specs.Sha256.{sha256}
use Rattle.mb_model.specs.declared.entry.Said.{Said}
use Rattle.mb_model.specs.declared.entry.Said.TheVariants.{Message, Answer}
use Rattle.mb_model.specs.declared.key.Trust.TheVariants as trust
use Rattle.mb_model.specs.declared.layer.Layer.{Layer}
use Rattle.mb_model.specs.declared.order.KeyKind.TheVariants as kinds
use Rattle.mb_model.specs.declared.state.Configuration.{Configuration}
use Rattle.mb_model.specs.declared.state.Report.{Report}
use Rattle.mb_model.specs.owners.Layers.{layer_without_owner, equal_trusts}
use Rattle.mb_model.specs.chains.Lines.{TextFailsAtLine}
use Rattle.mb_policy.specs.declared.judging.Judgement.TheVariants as judgement
use Rattle.mb_policy.specs.Policies.{HashSet, Test, PolicyRule, PolicyItem, set_item, rule_item, test_depth, SaysRule}
use Rattle.mb_policy.specs.Policies.{opposite, code_in_set, trust_is, number_between, comes_last, key_lives}
use Rattle.mb_policy.specs.Policies.{has_statement}
use Rattle.mb_policy.specs.Policies.{has_call, input_in, answer_in, IsPolicy}
use Rattle.mb_policy.specs.Judging.{Situation, holds, IsJudged}

-- ---- values

abbrev pub allow_rule : List ℕ → Test → PolicyItem
allow_rule name test = rule_item (record { name = name; allows = true; test = test })

abbrev pub deny_rule : List ℕ → Test → PolicyItem
deny_rule name test = rule_item (record { name = name; allows = false; test = test })

-- a reliable layer with code whose hash is 32 bytes of this number
abbrev pub coded_layer : ℕ → Layer
coded_layer byte = record {
  owner = None;
  code = Some (record { hash = replicate 32 byte; version = 1 });
  reliable = true;
  trust = equal_trusts trust.Always;
}

-- a configuration of a key of layer 2
abbrev pub small_configuration : ℕ → Configuration
small_configuration number = record {
  number = number;
  upto = 2;
  layers = record { one = coded_layer 17; two = coded_layer 34; three = layer_without_owner };
}

-- a key that lived in configurations 4 and 5
abbrev pub small_report : Report
small_report = record {
  layer = 2;
  kind = kinds.Epoch;
  alive = true;
  lives = small_configuration 4 ∷ small_configuration 5 ∷ [];
  entries = 6;
  said = None;
}

-- the situation of a report whose statement says this
abbrev pub stated_situation : Said → Situation
stated_situation said = record {
  report = record small_report { said = Some said };
  index = 0;
  configuration = small_configuration 4;
}

-- a call whose input has the hash 32 bytes of 17, and whose answer is `abc`
abbrev pub small_answer : Said
small_answer = Answer (replicate 32 17) (codes "abc")

abbrev pub small_situation : Situation
small_situation = record { report = small_report; index = 0; configuration = small_configuration 4 }

-- the set whose one hash is 32 bytes of this number
abbrev pub small_set : ℕ → HashSet
small_set byte = record { name = codes "good"; hashes = replicate 32 byte ∷ [] }

-- the set of the SHA-256 of `abc`
abbrev pub abc_set : HashSet
abc_set = record { name = codes "good"; hashes = sha256 (codes "abc") ∷ [] }

-- ---- lines

pub record PolicyExamples : Type 0 where
  -- no line, and lines that say nothing
  pub empty : IsPolicy [] []
  pub skipped : IsPolicy ([] ∷ codes "# nothing" ∷ []) []
  -- two rules, with a note between them
  pub rules : IsPolicy (codes "deny early number 4 4" ∷ codes "# others" ∷ codes "allow any not statement" ∷ [])
      (deny_rule (codes "early") (number_between 4 4) ∷ allow_rule (codes "any") (opposite has_statement) ∷ [])
  -- a set, and a rule that names it
  pub set : IsPolicy
      (codes "set good 1111111111111111111111111111111111111111111111111111111111111111"
      ∷ codes "allow a code 2 good" ∷ [])
      (set_item (small_set 17) ∷ allow_rule (codes "a") (code_in_set 2 (small_set 17)) ∷ [])
  -- a text of a rule whose set is missing: line 1 is the first that is wrong
  pub first_line : TextFailsAtLine IsPolicy (codes "allow a code 3 good" ++ 10 ∷ []) 1

pub record PolicyCounterExamples : Type 0 where
  -- in a text of one wrong line, line 2 is not the first that is wrong
  pub second_line : TextFailsAtLine IsPolicy (codes "allow a code 3 good" ++ 10 ∷ []) 2 → ⊥
  -- a rule whose set is missing
  pub missing_set : (items : List PolicyItem) → IsPolicy (codes "allow a code 3 good" ∷ []) items → ⊥
  -- a rule that is named `default`, two rules of one name, a word too many, a layer that does not exist
  pub named_default : (items : List PolicyItem) → IsPolicy (codes "allow default alive" ∷ []) items → ⊥
  pub named_twice : (items : List PolicyItem)
      → IsPolicy (codes "allow a alive" ∷ codes "deny a last" ∷ []) items → ⊥
  pub word_left : (items : List PolicyItem) → IsPolicy (codes "allow a alive alive" ∷ []) items → ⊥
  pub fourth_layer : (items : List PolicyItem) → IsPolicy (codes "allow a reliable 4" ∷ []) items → ⊥
  -- a test nested 33 deep
  pub too_deep : (before : List PolicyItem) (words : List (List ℕ)) (rule : PolicyRule) → test_depth rule.test ≡ 33
      → SaysRule before words rule → ⊥

-- ---- judgements

pub record JudgementExamples : Type 0 where
  -- `default` denies the first configuration
  pub nothing : IsJudged [] small_report (judgement.Denied 4 (codes "default"))
  pub all : IsJudged (allow_rule (codes "a") key_lives ∷ []) small_report judgement.Allowed
  -- the first rule that holds decides
  pub denied : IsJudged (deny_rule (codes "late") comes_last ∷ allow_rule (codes "a") key_lives ∷ []) small_report
      (judgement.Denied 5 (codes "late"))
  pub allowed : IsJudged (allow_rule (codes "a") key_lives ∷ deny_rule (codes "late") comes_last ∷ []) small_report
      judgement.Allowed
  -- the code of layer 2 is in a set, or not
  pub code : holds (code_in_set 2 (small_set 34)) small_situation ≡ true
  pub other_code : holds (code_in_set 2 (small_set 17)) small_situation ≡ false
  -- layer 3 is one without an owner, whose trusts are never; it is not listed, so the test does not hold
  pub not_listed : holds (trust_is 3 1 trust.Never) small_situation ≡ false
  pub not_trusted : holds (opposite (trust_is 3 1 trust.Never)) small_situation ≡ true
  -- a call is a statement; a message is one, and no call
  pub stated : holds has_statement (stated_situation small_answer) ≡ true
  pub called : holds has_call (stated_situation small_answer) ≡ true
  pub message : holds has_statement (stated_situation (Message (codes "abc"))) ≡ true
  pub not_called : holds has_call (stated_situation (Message (codes "abc"))) ≡ false
  -- the hash of the input is in a set, or not; a message of the bytes of that hash is no input
  pub input : holds (input_in (small_set 17)) (stated_situation small_answer) ≡ true
  pub other_input : holds (input_in (small_set 34)) (stated_situation small_answer) ≡ false
  pub no_input : holds (input_in (small_set 17)) (stated_situation (Message (replicate 32 17))) ≡ false
  -- the SHA-256 of the answer is in a set
  pub answer : holds (answer_in abc_set) (stated_situation small_answer) ≡ true

pub record JudgementCounterExamples : Type 0 where
  -- a report is not allowed if there is no rule, or if a rule that denies comes first
  pub no_rule : IsJudged [] small_report judgement.Allowed → ⊥
  pub denied_first : IsJudged (deny_rule (codes "late") comes_last ∷ allow_rule (codes "a") key_lives ∷ []) small_report
      judgement.Allowed → ⊥
  -- if the first configuration is denied, the judgement names neither the second nor another rule
  pub later : IsJudged [] small_report (judgement.Denied 5 (codes "default")) → ⊥
  pub other_name : IsJudged [] small_report (judgement.Denied 4 (codes "a")) → ⊥
  -- what is allowed is not denied
  pub allowed : (number : ℕ) (name : List ℕ)
      → IsJudged (allow_rule (codes "a") key_lives ∷ []) small_report (judgement.Denied number name) → ⊥
