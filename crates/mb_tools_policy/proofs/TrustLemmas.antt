-- What carries out `trust`.
use Rattle.std.proofs.Common.{◌≡◌, ℕ, false, List, [], codes, Option, None, Some, Result, Err, refl, sym, subst, inl, inr}
use Rattle.mb_model.specs.outside.Board.{Held, Used, not_used}
use Rattle.mb_model.specs.declared.key.PublicKey.{PublicKey}
use Rattle.mb_model.specs.declared.state.Report.{Report}
use Rattle.mb_model.specs.outside.Texts.{line_with_lf}
use Rattle.mb_model.specs.chains.Acceptance.{ChainRefusal, IsRefused, chain_acceptance, chain_rejection}
use Rattle.mb_model.specs.chains.Acceptance.{IsVerdict}
use Rattle.mb_model_commands.specs.Outside.{Outside}
use Rattle.mb_model_commands.specs.Commands.{Command, find, print, Past, at_first}
use Rattle.mb_policy.specs.declared.judging.Judgement.TheVariants as judgement
use Rattle.mb_policy.specs.Policies.{PolicyItem}
use Rattle.mb_policy.specs.Judging.{IsJudged}
use Rattle.mb_console.specs.declared.end.End.{End}
use Rattle.mb_console.specs.declared.end.End.TheVariants as end
use Rattle.mb_console.specs.Ending.{CarriesOutRest, CarriesOutAfter, CarriesOut, LeadsTo}
use Rattle.mb_console.specs.Outputs.{writes}
use Rattle.mb_console.proofs.CommandLemmas.{finds, refuse_here, memory_unfound}
use Rattle.mb_console.proofs.Leading as step
use Rattle.mb_tools.specs.Chains.{TellsRefusal}
use Rattle.mb_tools_policy.specs.TrustCommand.{denied_line, tell_judgement, judge_verdict}
use Rattle.mb_tools_policy.specs.Denials.{TellsDenial}

-- ---- a chain that is judged

pub chain_not_judged : {used : Used} {final : Held} {whole : Command} {past : Past} {before : Outside} {later : Past} {mid : Outside}
    {maker : PublicKey} {bytes : List ℕ} {number : ℕ} (items : List PolicyItem) (found : Option ChainRefusal) (why : End)
    → LeadsTo used final whole past before (find (IsVerdict maker bytes number) (judge_verdict items)) later mid
    → ((reason : ChainRefusal) → found ≡ Some reason → IsRefused maker bytes number reason) → TellsRefusal found why
    → later.wrote ≡ false → used ≡ later.used → CarriesOutRest whole past used final before (Err why) mid
chain_not_judged items (Some reason) why leads refused tells none same = step.is_refused (step.finds leads (chain_rejection reason) (refused reason refl)) same why tells
chain_not_judged items None why leads refused tells none same = rw tells (step.lacks_memory leads tt none same)

-- ---- a report that is judged

pub key_allowed : (items : List PolicyItem) (report : Report) (text : List ℕ) (before now : Outside) (result : Result (Unit {0}) End) → IsJudged items report judgement.Allowed → text ≡ line_with_lf (codes "allowed")
    → CarriesOutAfter (writes [] (print text)) before result now → CarriesOut (judge_verdict items (chain_acceptance report)) before result now
unfolding writes
key_allowed items report text before now result judged is carried = λ final.
    finds (IsJudged items report) tell_judgement at_first not_used final before now judgement.Allowed result judged ((subst (λ t. CarriesOutAfter (print t) before result now) is carried) at_first final)

pub judgement_lacks : (items : List PolicyItem) (report : Report) (before : Outside) → CarriesOut (judge_verdict items (chain_acceptance report)) before (Err end.NoMemory) before
judgement_lacks items report before = λ final. memory_unfound (IsJudged items report) tell_judgement at_first not_used final before refl refl

pub key_denied : (items : List PolicyItem) (report : Report) (number : ℕ) (rule : List ℕ) (why : End) (before : Outside) → IsJudged items report (judgement.Denied number rule) → TellsDenial number rule why
    → CarriesOut (judge_verdict items (chain_acceptance report)) before (Err why) before
key_denied items report number rule why before judged (inl refuses) = λ final.
    finds (IsJudged items report) tell_judgement at_first not_used final before before (judgement.Denied number rule) _ judged (refuse_here (denied_line number rule) why at_first not_used final before refuses refl)
key_denied items report number rule why before judged (inr is) =
    subst (λ w. CarriesOut (judge_verdict items (chain_acceptance report)) before (Err w) before) (sym is) (judgement_lacks items report before)
