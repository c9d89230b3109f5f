-- Laws of policies that ask which code has answered. If `trust` allows a key by the statement of a call, which code
-- spoke?
use Rattle.std.specs.Prelude.{◌≡◌, ◌≤◌, ℕ, List, [], ◌∷◌, length, codes, All, Some, true}
use Rattle.sha2.specs.Sha256.{sha256}
use Rattle.mb_model.specs.declared.entry.Said.TheVariants.{Message, Answer}
use Rattle.mb_model.specs.declared.entry.Statement.{Statement}
use Rattle.mb_model.specs.declared.limits.TheConstants.{ENTRY_LIMIT}
use Rattle.mb_model.specs.declared.state.Report.{Report}
use Rattle.mb_model.specs.declared.state.State.{State}
use Rattle.mb_model.specs.chains.Acceptance.{Honest}
use Rattle.mb_model.specs.machine.Machine.{World}
use Rattle.mb_model.specs.memories.Valid.{Valid}
use Rattle.mb_model.specs.owners.Log.{entries_of, serial_of}
use Rattle.mb_model_commands.specs.Outside.{Outside}
use Rattle.mb_model_histories.specs.AcceptanceLaws.{HonestStatement}
use Rattle.mb_model_histories.specs.Histories.{ComesAfter}
use Rattle.mb_call_histories.specs.AcceptedCallLaws.{WasMadeByCode}
use Rattle.mb_policy.specs.declared.judging.Judgement.TheVariants as judgement
use Rattle.mb_policy.specs.Examples.{allow_rule, small_set, small_report}
use Rattle.mb_policy.specs.Judging.{Situation, has_hash, holds, IsJudged}
use Rattle.mb_policy.specs.Policies.{HashSet, PolicyItem, set_item, rule_item, both_of, code_in_set, has_statement}
use Rattle.mb_policy.specs.Policies.{has_call}
use Rattle.mb_policy_histories.specs.TrustLaws.{AllowsKey}
use Rattle.mb_tools_policy.specs.TrustCommand.{TrustNames}

-- If the item is a rule that allows, its test holds only where there is the statement of a call, and where the code of
-- this layer has a hash of this set.
abbrev pub AsksForCode : ℕ → HashSet → PolicyItem → Type 0
AsksForCode layer set (set_item other) = Unit {0}
AsksForCode layer set (rule_item rule) =
    rule.allows ≡ true → (situation : Situation) → holds rule.test situation ≡ true
    → (holds has_call situation ≡ true) × (holds (code_in_set layer set) situation ≡ true)

-- The statement has an answer. In the history, code whose hash is of this set gave it.
pub record IsByCodeOf
    (set : HashSet)
    (first last : World)
    (key_number : ℕ)
    (report : Report)
    (statement : Statement) : Type 0 where
  pub hash : List ℕ
  pub answer : List ℕ
  pub said : statement.said ≡ Answer hash answer
  pub made : WasMadeByCode first last key_number report statement hash answer
  pub is_of : has_hash set (sha256 made.ran.code) ≡ true

-- If nothing was forged, the statement of a chain that `trust` allows is by code of a set, in the device with this log,
-- which has the serial that the chain names: as long as each rule that allows asks for a call, and for code of the
-- key's layer of that set.
abbrev pub AllowedCallsTellTheCode : Type 0
AllowedCallsTellTheCode =
    (names : TrustNames) (before after : Outside) (allows : AllowsKey names before after) (statement : Statement)
    → (set : HashSet) (first last : World) (live : State) → All (AsksForCode allows.report.layer set) allows.items
    → Valid first.state → ComesAfter last first → last.state ≡ Some live
    → length live.log ≤ ENTRY_LIMIT → Honest allows.accepts.chain.entries allows.maker (entries_of live.log)
    → allows.accepts.chain.statement ≡ Some statement
    → HonestStatement first last (entries_of live.log) names.key statement
    → IsByCodeOf set first last names.key allows.report statement
    × (serial_of (entries_of allows.accepts.chain.entries) ≡ Some live.serial)

-- the policy of a set and one rule, `allow NAME and called code LAYER SET`
abbrev pub code_policy : List ℕ → ℕ → HashSet → List PolicyItem
code_policy name layer set = set_item set ∷ allow_rule name (both_of has_call (code_in_set layer set)) ∷ []

-- It asks for a call, and for code of that layer of that set.
abbrev pub CodePoliciesAskForCode : Type 0
CodePoliciesAskForCode =
    (name : List ℕ) (layer : ℕ) (set : HashSet) → All (AsksForCode layer set) (code_policy name layer set)

-- That each rule asks for a call cannot be left out: by the rule `allow a and statement code 2 good`, a key is allowed
-- that signed the empty message, which code of that set need not know of.
abbrev pub MessagesAreNoAnswers : Type 0
MessagesAreNoAnswers =
    let items : List PolicyItem = set_item (small_set 34)
    ∷ allow_rule (codes "a") (both_of has_statement (code_in_set 2 (small_set 34))) ∷ [] in
    IsJudged items (record small_report { said = Some (Message []) }) judgement.Allowed
    × (All (AsksForCode 2 (small_set 34)) items → ⊥)
