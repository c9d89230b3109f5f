-- What `trust` has read at status 0, and what follows for a statement.
use Rattle.std.proofs.Common.{◌≡◌, ℕ, ◌+◌, List, [], ◌∷◌, ◌++◌, length, inl, inr, Some, Bool, true, false, refl, sym, ap, ◌∙◌, subst, arith, codes, length-append}
use Rattle.std.specs.Prelude.{slice_get, if◌then◌else◌}
use Rattle.mb_model.specs.declared.key.PublicKey.{PublicKey}
use Rattle.mb_model.specs.declared.entry.Entry.{Entry}
use Rattle.mb_model.specs.declared.entry.Said.{Said}
use Rattle.mb_model.specs.declared.entry.Statement.{Statement}
use Rattle.mb_model.specs.declared.state.Configuration.{Configuration}
use Rattle.mb_model.specs.declared.state.Report.{Report}
use Rattle.mb_model.specs.chains.Acceptance.{IsCurrent, IsVerdict, Verdict, chain_acceptance, chain_rejection}
use Rattle.mb_model.specs.owners.Lives.{configuration}
use Rattle.mb_model.specs.owners.Log.{entries_of}
use Rattle.mb_model.specs.machine.Machine.{World}
use Rattle.mb_model.specs.outside.Texts.{line_with_lf}
use Rattle.mb_model_commands.specs.Commands.{Input, Command, read, find, print, refuse, HasRead, Past, Ended, end_seen_from, InputEnds, input_is_too_long, input_is_faulty, input_is_not_read, memory_lacks, text_is_printed, text_is_not_printed, CommandEnds, at_first}
use Rattle.mb_model_commands.specs.Inputs.{root_input, chain_bytes_input}
use Rattle.mb_model_commands.specs.Outside.{Outside, read_once, Prints}
use Rattle.mb_model_histories.specs.AcceptanceLaws.{WasMade}
use Rattle.mb_model_histories.specs.UseLaws.{ShowsStatement}
use Rattle.mb_model_histories.proofs.AcceptanceLemmas.{accepted_statements_were_made, current_in}
use Rattle.mb_policy.specs.declared.judging.Judgement.{Judgement}
use Rattle.mb_policy.specs.declared.judging.Judgement.TheVariants as judgement
use Rattle.mb_policy.specs.Judging.{default_ruling, IsJudged}
use Rattle.mb_policy.specs.Policies.{PolicyItem}
use Rattle.mb_tools_policy.specs.Inputs.{policy_input}
use Rattle.mb_tools_policy.specs.TrustCommand.{TrustNames, trust, judge_verdict, tell_judgement}
use Rattle.mb_policy_histories.specs.TrustLaws.{AllowsKey, DoneTrustAllows, IsAllowedIn, AllowedStatementsWereMade, ShownStatementsCanBeAllowed, DeniedStatementsAreNotAllowed}

-- ---- ends at status 0

no_input_ends : {A : Type 0} (input : Input A) (past : Past) (ending : Ended) → InputEnds input past ending → ending.status ≡ 0 → ⊥
no_input_ends input past ending (input_is_too_long held stops) done = omega (arith, stops.status_is, done)
no_input_ends input past ending (input_is_faulty bytes has place fault stops) done = omega (arith, stops.status_is, done)
no_input_ends input past ending (input_is_not_read mid fails stops) done = omega (arith, stops.status_is, done)
no_input_ends input past ending (memory_lacks wants) done = omega (arith, wants.stops.status_is, done)

-- what was read
read_on : {A : Type 0} (input : Input A) (rest : A → Command) (past : Past) (ending : Ended) → CommandEnds (read input rest) past ending → ending.status ≡ 0
    → (bytes : List ℕ) × HasRead ending.before input.name bytes × ((value : A) × input.Is bytes value × CommandEnds (rest value) past (end_seen_from (read_once ending.before) ending))
unfolding CommandEnds
read_on input rest past ending (inl ends) done = absurd (no_input_ends input past ending ends done)
read_on input rest past ending (inr it) done = it

-- what was found
find_on : {A : Type 0} (Is : A → Type 0) (rest : A → Command) (past : Past) (ending : Ended) → CommandEnds (find Is rest) past ending → ending.status ≡ 0
    → (value : A) × Is value × CommandEnds (rest value) past ending
unfolding CommandEnds
find_on Is rest past ending (inl it) done = it
find_on Is rest past ending (inr wants) done = absurd (omega (arith, wants.stops.status_is, done))

no_refusal : (line : List ℕ) (past : Past) (ending : Ended) → CommandEnds (refuse line) past ending → ending.status ≡ 0 → ⊥
unfolding CommandEnds
no_refusal line past ending (inl stops) done = omega (arith, stops.status_is, done)
no_refusal line past ending (inr wants) done = omega (arith, wants.stops.status_is, done)

print_on : (text : List ℕ) (past : Past) (ending : Ended) → CommandEnds (print text) past ending → ending.status ≡ 0 → Prints text ending.before ending.after
unfolding CommandEnds
print_on text past ending (inl (text_is_printed prints used status)) done = prints
print_on text past ending (inl (text_is_not_printed mid fails stops)) done = absurd (omega (arith, stops.status_is, done))
print_on text past ending (inr wants) done = absurd (omega (arith, wants.stops.status_is, done))

-- ---- trust

judged_on : (items : List PolicyItem) (report : Report) (judged : Judgement) (past : Past) (ending : Ended) → IsJudged items report judged → CommandEnds (tell_judgement judged) past ending → ending.status ≡ 0
    → IsJudged items report judgement.Allowed × Prints (line_with_lf (codes "allowed")) ending.before ending.after
judged_on items report judgement.Allowed past ending is ends done = (is, print_on (line_with_lf (codes "allowed")) past ending ends done)
judged_on items report (judgement.Denied number rule) past ending is ends done = absurd (no_refusal _ past ending ends done)

module _ (names : TrustNames) (ending : Ended) (done : ending.status ≡ 0) where
  at_policy : Ended
  at_policy = end_seen_from (read_once (read_once (read_once ending.before))) ending

  allowed_by : (root bytes policy : List ℕ) (maker : PublicKey) (items : List PolicyItem) (verdict : Verdict) → HasRead ending.before names.root root → (root_input names.root).Is root maker
      → HasRead (read_once ending.before) names.chain bytes → HasRead (read_once (read_once ending.before)) names.policy policy → (policy_input names.policy).Is policy items
      → IsVerdict maker bytes names.key verdict → CommandEnds (judge_verdict items verdict) at_first at_policy → AllowsKey names ending.before ending.after
  unfolding at_policy
  allowed_by root bytes policy maker items (chain_acceptance report) has_root root_is has_chain has_policy policy_is accepts ends =
      let found = find_on (IsJudged items report) tell_judgement at_first at_policy ends done in
      let judged = judged_on items report found.0 at_first at_policy found.1 found.2 done in
      record {
        root = root;
        has_root = has_root;
        maker = maker;
        root_is = root_is;
        bytes = bytes;
        has_chain = has_chain;
        policy = policy;
        has_policy = has_policy;
        items = items;
        policy_is = policy_is;
        report = report;
        accepts = accepts;
        judged = judged.0;
        printed = judged.1;
      }
  allowed_by root bytes policy maker items (chain_rejection why) has_root root_is has_chain has_policy policy_is refused ends = absurd (no_refusal _ at_first at_policy ends done)

pub done_trust_allows : DoneTrustAllows
unfolding trust at_policy
done_trust_allows names ending ends done =
    let root = read_on (root_input names.root) _ at_first ending ends done in
    let after_root : Ended = end_seen_from (read_once ending.before) ending in
    let chain = read_on (chain_bytes_input names.chain) _ at_first after_root root.2.2 done in
    let after_chain : Ended = end_seen_from (read_once (read_once ending.before)) ending in
    let policy = read_on (policy_input names.policy) _ at_first after_chain chain.2.2 done in
    let verdict = find_on (IsVerdict root.2.0 chain.2.0 names.key) (judge_verdict policy.2.0) at_first (at_policy names ending done) policy.2.2 done in
    allowed_by names ending done root.0 chain.2.0 policy.0 root.2.0 policy.2.0 verdict.0 root.1 root.2.1
    (subst (HasRead (read_once ending.before) names.chain) (sym chain.2.1) chain.1) policy.1 policy.2.1 verdict.1 verdict.2

-- ---- the statement

-- what stands after others is found at their number
last_listed : (sooner : List Configuration) (last : Configuration) → slice_get (sooner ++ last ∷ []) (length sooner) ≡ Some last
last_listed [] last = refl
last_listed (first ∷ sooner) last = last_listed sooner last

-- the policy allows the configuration in which the statement was made
pub allowed_where_made : (names : TrustNames) (before after : Outside) (allows : AllowsKey names before after) (statement : Statement) (first last : World) (one : WasMade first last names.key allows.report statement)
    → IsAllowedIn allows.items allows.report (configuration allows.report.layer one.number one.state.layers)
allowed_where_made names before after allows statement first last one =
    let asked : Configuration = configuration allows.report.layer one.number one.state.layers in
    let listed : slice_get allows.report.lives (length one.sooner) ≡ Some asked = ap (λ lives. slice_get lives (length one.sooner)) one.lives ∙ last_listed one.sooner asked in
    let long : length allows.report.lives ≡ length one.sooner + 1 = ap length one.lives ∙ length-append one.sooner (asked ∷ []) in
    record { index = length one.sooner; listed = listed; allows = allows.judged (length one.sooner) asked (omega (arith, long)) listed }

pub allowed_statements_were_made : AllowedStatementsWereMade
allowed_statements_were_made names before after allows statement first last live valid comes is few honest stated not_forged =
    let made = accepted_statements_were_made allows.maker allows.bytes names.key allows.report allows.accepts statement first last live valid comes is few honest stated not_forged in
    (made.0, made.1, allowed_where_made names before after allows statement first last made.0)

-- ---- values

-- the report on a key of a chain with a statement says that it is alive
alive_in : (maker : PublicKey) (first : World) (said : Said) (shows : ShowsStatement maker first said) → shows.report.alive ≡ true
alive_in maker first said shows =
    let entries : List Entry = entries_of shows.accepts.chain.entries in
    let current : IsCurrent entries shows.key_number shows.accepts.made shows.statement =
    current_in entries shows.key_number shows.accepts.made shows.accepts.chain.statement shows.statement shows.stated shows.accepts.current in
    ap (λ (report : Report). report.alive) shows.accepts.report_is ∙ current.alive

pub shown_statements_can_be_allowed : ShownStatementsCanBeAllowed
shown_statements_can_be_allowed maker first said shows = λ index asked less listed.
    ap (λ b. (if b then record { name = codes "a"; allows = true } else default_ruling).allows) (alive_in maker first said shows)

neither_allows : (b : Bool) → (if b then record { name = codes "a"; allows = false } else default_ruling).allows ≡ false
neither_allows true = refl
neither_allows false = refl

pub denied_statements_are_not_allowed : DeniedStatementsAreNotAllowed
denied_statements_are_not_allowed maker first said shows asked allowed =
    let clash : false ≡ true = sym (neither_allows shows.report.alive) ∙ allowed.allows in
    absurd (grind (arith, clash))
