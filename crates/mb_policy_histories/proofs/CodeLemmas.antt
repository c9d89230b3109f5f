-- Which code has answered, if a policy asks for it.
use Rattle.std.proofs.Common.{◌≡◌, ℕ, List, [], ◌∷◌, Option, None, Some, Bool, true, false, zero, suc, refl, sym, ap, ◌∙◌, subst, arith, codes}
use Rattle.std.specs.Prelude.{◌==◌, ◌&&◌, is_some, nat_lt, nat_le, option_map, All, if◌then◌else◌}
use Rattle.std.proofs.lemmas.Bool.{and_parts, false≢true}
use Rattle.std.proofs.lemmas.List.Elements.{All-nil, All-cons, All-head, All-tail}
use Rattle.std.proofs.lemmas.Option.{same_Some}
use Rattle.sha2.specs.Sha256.{sha256}
use Rattle.mb_model.specs.declared.entry.Said.{Said}
use Rattle.mb_model.specs.declared.entry.Said.TheVariants.{Message, Answer}
use Rattle.mb_model.specs.declared.entry.Statement.{Statement}
use Rattle.mb_model.specs.declared.layer.CodeName.{CodeName}
use Rattle.mb_model.specs.declared.layer.Layer.{Layer}
use Rattle.mb_model.specs.declared.layer.Layers.{Layers}
use Rattle.mb_model.specs.declared.state.Configuration.{Configuration}
use Rattle.mb_model.specs.declared.state.Report.{Report}
use Rattle.mb_model.specs.chains.Acceptance.{said_of}
use Rattle.mb_model.specs.machine.Machine.{World}
use Rattle.mb_model.specs.owners.Layers.{layer_of, layer_without_owner, is_layer_number}
use Rattle.mb_model.specs.owners.Lives.{layers_upto, configuration}
use Rattle.mb_call_histories.specs.AcceptedCallLaws.{WasMadeByCode}
use Rattle.mb_call_histories.proofs.MadeLemmas.{accepted_calls_were_made}
use Rattle.mb_policy.specs.Examples.{allow_rule, small_configuration, small_report, small_set}
use Rattle.mb_policy.specs.Judging.{Situation, some_passes, has_hash, code_hash, call_said, holds, ruling_of, AllowsFirst}
use Rattle.mb_policy.specs.Policies.{HashSet, PolicyItem, set_item, rule_item, both_of, code_in_set, has_statement, has_call}
use Rattle.mb_policy_histories.specs.TrustLaws.{IsAllowedIn}
use Rattle.mb_policy_histories.specs.CodeLaws.{AsksForCode, AllowedCallsTellTheCode, CodePoliciesAskForCode, MessagesAreNoAnswers}
use Rattle.mb_policy_histories.proofs.TrustLemmas.{allowed_where_made, allowed_statements_were_made}

-- ---- what a rule that allows has asked

-- of the configuration where a policy allows, there is a call, and the code is of the set
abbrev Asked : ℕ → HashSet → Situation → Type 0
Asked layer set situation = (holds has_call situation ≡ true) × (holds (code_in_set layer set) situation ≡ true)

ruled : (layer : ℕ) (set : HashSet) (items : List PolicyItem) (situation : Situation) → All (AsksForCode layer set) items → (ruling_of items situation).allows ≡ true → Asked layer set situation
ruled layer set [] situation asks allows = absurd (false≢true allows)
ruled layer set (set_item other ∷ rest) situation asks allows = ruled layer set rest situation (All-tail (AsksForCode layer set) (set_item other) rest asks) allows
ruled layer set (rule_item rule ∷ rest) situation asks allows =
    by (holds rule.test situation) refl allows (λ later. ruled layer set rest situation (All-tail (AsksForCode layer set) (rule_item rule) rest asks) later)
  where
    by : (b : Bool) → holds rule.test situation ≡ b → (if b then record { name = rule.name; allows = rule.allows } else ruling_of rest situation).allows ≡ true
        → ((ruling_of rest situation).allows ≡ true → Asked layer set situation) → Asked layer set situation
    by true is e later = All-head (AsksForCode layer set) (rule_item rule) rest asks e situation is
    by false is e later = later e

-- ---- the statement of a call

answered : (said : Said) → is_some (call_said (Some said)) ≡ true → (hash answer : List ℕ) × (said ≡ Answer hash answer)
answered (Message message) e = absurd (false≢true e)
answered (Answer hash answer) e = (hash, answer, refl)

reported : (report : Report) (statement : Statement) → report.said ≡ Some statement.said → is_some (call_said report.said) ≡ true → (hash answer : List ℕ) × (statement.said ≡ Answer hash answer)
reported report statement is e = answered statement.said (ap (λ (o : Option Said). is_some (call_said o)) (sym is) ∙ e)

-- ---- the code

passes_in : (set : HashSet) (b : Bool) (layer : Layer) → some_passes (λ listed. some_passes (has_hash set) (code_hash listed)) (if b then Some layer else None) ≡ true
    → some_passes (has_hash set) (code_hash layer) ≡ true
passes_in set true layer e = e
passes_in set false layer e = absurd (false≢true e)

code_of_set : (set : HashSet) (layer : Layer) (name : CodeName) → layer.code ≡ Some name → some_passes (has_hash set) (code_hash layer) ≡ true → has_hash set name.hash ≡ true
code_of_set set layer name listed e = ap (λ (o : Option CodeName). some_passes (has_hash set) (option_map (λ code. code.hash) o)) (sym listed) ∙ e

-- a configuration of a key lists the key's own layer as it is
own_by : (layer : ℕ) (one two three none : Layer) (a b c d e : Bool) → (layer == 2) ≡ b → (layer == 3) ≡ c → nat_lt layer 2 ≡ d → nat_lt layer 3 ≡ e
    → (if a then one else if b then (if d then none else two) else if c then (if e then none else three) else none) ≡ (if a then one else if b then two else if c then three else none)
own_by layer one two three none true b c d e is_b is_c is_d is_e = refl
own_by layer one two three none false true c true e is_b is_c is_d is_e = absurd (grind (arith, is_b, is_d))
own_by layer one two three none false true c false e is_b is_c is_d is_e = refl
own_by layer one two three none false false true d true is_b is_c is_d is_e = absurd (grind (arith, is_c, is_e))
own_by layer one two three none false false true d false is_b is_c is_d is_e = refl
own_by layer one two three none false false false d e is_b is_c is_d is_e = refl

own_layer : (layer : ℕ) (layers : Layers) → layer_of (layers_upto layer layers) layer ≡ layer_of layers layer
own_layer layer layers = own_by layer layers.one layers.two layers.three layer_without_owner (layer == 1) (layer == 2) (layer == 3) (nat_lt layer 2) (nat_lt layer 3) refl refl refl refl

-- the code that gave an answer is of the set that was asked for
code_was_asked : (set : HashSet) (first last : World) (n : ℕ) (report : Report) (statement : Statement) (hash answer : List ℕ) (made : WasMadeByCode first last n report statement hash answer) (index : ℕ)
    → holds (code_in_set report.layer set) (record { report = report; index = index; configuration = configuration report.layer made.made.number made.made.state.layers }) ≡ true
    → has_hash set (sha256 made.ran.code) ≡ true
code_was_asked set first last n report statement hash answer made index asked =
    let layers : Layers = made.made.state.layers in
    let own : Layer = layer_of (layers_upto report.layer layers) report.layer in
    let passes : some_passes (has_hash set) (code_hash own) ≡ true = passes_in set (is_layer_number report.layer && nat_le report.layer report.layer) own asked in
    let named : some_passes (has_hash set) (code_hash (layer_of layers report.layer)) ≡ true = ap (λ (l : Layer). some_passes (has_hash set) (code_hash l)) (sym (own_layer report.layer layers)) ∙ passes in
    subst (λ (h : List ℕ). has_hash set h ≡ true) made.code_is (code_of_set set (layer_of layers report.layer) made.name made.listed named)

pub allowed_calls_tell_the_code : AllowedCallsTellTheCode
allowed_calls_tell_the_code names before after allows statement set first last live asks valid comes is few honest stated not_forged =
    let layer : ℕ = allows.report.layer in
    let one = allowed_statements_were_made names before after allows statement first last live valid comes is few honest stated not_forged in
    let asked_first = ruled layer set allows.items _ asks one.2.allows in
    let said_is : allows.report.said ≡ Some statement.said = ap (λ (r : Report). r.said) allows.accepts.report_is ∙ ap said_of stated in
    let said = reported allows.report statement said_is asked_first.0 in
    let made = accepted_calls_were_made allows.maker allows.bytes names.key allows.report allows.accepts statement said.0 said.1 first last live valid comes is few honest stated said.2 not_forged in
    let by_code : WasMadeByCode first last names.key allows.report statement said.0 said.1 = made.0 in
    let asked : Configuration = configuration layer by_code.made.number by_code.made.state.layers in
    let there : IsAllowedIn allows.items allows.report asked = allowed_where_made names before after allows statement first last by_code.made in
    let now = ruled layer set allows.items (record { report = allows.report; index = there.index; configuration = asked }) asks there.allows in (
      record {
        hash = said.0;
        answer = said.1;
        said = said.2;
        made = by_code;
        is_of = code_was_asked set first last names.key allows.report statement said.0 said.1 by_code there.index now.1;
      },
      made.1,
    )

-- ---- values

pub code_policies_ask_for_code : CodePoliciesAskForCode
code_policies_ask_for_code name layer set =
    All-cons (AsksForCode layer set) (set_item set) (allow_rule name (both_of has_call (code_in_set layer set)) ∷ []) tt
    (All-cons (AsksForCode layer set) (allow_rule name (both_of has_call (code_in_set layer set))) [] (λ allows situation e. and_parts (holds has_call situation) (holds (code_in_set layer set) situation) e) (All-nil (AsksForCode layer set)))

abbrev message_policy : List PolicyItem
message_policy = set_item (small_set 34) ∷ allow_rule (codes "a") (both_of has_statement (code_in_set 2 (small_set 34))) ∷ []

abbrev message_report : Report
message_report = record small_report { said = Some (Message []) }

both_allowed : AllowsFirst message_policy message_report 2
both_allowed zero asked less listed =
    subst (λ (c : Configuration). (ruling_of message_policy (record { report = message_report; index = 0; configuration = c })).allows ≡ true) (same_Some (small_configuration 4) asked listed) refl
both_allowed (suc zero) asked less listed =
    subst (λ (c : Configuration). (ruling_of message_policy (record { report = message_report; index = 1; configuration = c })).allows ≡ true) (same_Some (small_configuration 5) asked listed) refl
both_allowed (suc (suc index)) asked less listed = absurd (omega (arith, less))

pub messages_are_no_answers : MessagesAreNoAnswers
messages_are_no_answers = (
  both_allowed,
  λ asks.
      let rule : AsksForCode 2 (small_set 34) (allow_rule (codes "a") (both_of has_statement (code_in_set 2 (small_set 34)))) =
      All-head (AsksForCode 2 (small_set 34)) (allow_rule (codes "a") (both_of has_statement (code_in_set 2 (small_set 34)))) [] (All-tail (AsksForCode 2 (small_set 34)) (set_item (small_set 34)) (allow_rule (codes "a") (both_of has_statement (code_in_set 2 (small_set 34))) ∷ []) asks) in
      false≢true (rule refl (record { report = message_report; index = 0; configuration = small_configuration 4 }) refl).0,
)
