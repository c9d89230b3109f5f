use Rattle.std.proofs.Common.{ℕ, List, refl, subst}
use Rattle.mb_policy.specs.Meanings.{policy_items}
use Rattle.mb_tools_policy.specs.Denials.{TellsDenial}
use Rattle.mb_tools_policy.proofs.TrustLemmas.{key_allowed, key_denied, judgement_lacks}
use Rattle.mb_tools_policy.proofs.trust.judge.Goals as goal

pub returns-in-Ok-Allowed : goal.returns-in-Ok-Allowed
returns-in-Ok-Allowed g c =
    let outside = g.H.Host.outside in
    key_allowed (policy_items c.args.policy.now) c.args.report.now _ (outside c.args.host.now) (outside c.finish.new.host) c.finish.result
    (rw c.in-Ok-Allowed.field-0-is at c.in-Ok-Allowed.ensures) refl c.finish.ensures

pub returns-in-Ok-Denied : goal.returns-in-Ok-Denied
returns-in-Ok-Denied g c =
    let tells = subst (λ (r : List ℕ). TellsDenial c.in-Ok-Denied.number r c.end_of_denial.result) c.as_slice.ensures c.end_of_denial.ensures in
    key_denied (policy_items c.args.policy.now) c.args.report.now c.in-Ok-Denied.number c.in-Ok-Denied.rule c.end_of_denial.result (g.H.Host.outside c.args.host.now)
    (rw c.in-Ok-Denied.field-0-is at c.in-Ok-Denied.ensures) tells

pub returns-in-Err : goal.returns-in-Err
returns-in-Err g c = judgement_lacks (policy_items c.args.policy.now) c.args.report.now (g.H.Host.outside c.args.host.now)
