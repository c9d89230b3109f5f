use Rattle.std.proofs.Common.{◌≡◌, ℕ, List, Some, refl, subst}
use Rattle.mb_model.specs.chains.Acceptance.{ChainRefusal, Accepts, IsRefused, chain_acceptance}
use Rattle.mb_verifier.specs.Ends.{chain_refusal_of}
use Rattle.mb_policy.specs.Meanings.{policy_items}
use Rattle.mb_console.proofs.Leading.{begins, reads, finds, stops_at_input}
use Rattle.mb_tools_policy.specs.TrustCommand.{trust}
use Rattle.mb_tools_policy.proofs.TrustLemmas.{chain_not_judged}
use Rattle.mb_tools_policy.proofs.trust.trust.Goals as goal

pub returns-in_err-root : goal.returns-in_err-root
unfolding trust
returns-in_err-root g c = λ final. stops_at_input _ _ _ begins c.from_residual.ensures.1 c.in_err-root.ensures.err refl refl

pub returns-in_err-chain : goal.returns-in_err-chain
unfolding trust
returns-in_err-chain g c = λ final. stops_at_input _ _ _ (reads begins c.in_ok-root.ensures.read) c.from_residual-in_err-chain.ensures.1 c.in_err-chain.ensures.err refl refl

pub returns-in_err-policy : goal.returns-in_err-policy
unfolding trust
returns-in_err-policy g c = λ final.
    let chain = reads (reads begins c.in_ok-root.ensures.read) c.in_ok-chain.ensures.read in
    stops_at_input _ _ _ chain c.from_residual-in_err-policy.ensures.1 c.in_err-policy.ensures.err refl refl

pub returns-in-Ok : goal.returns-in-Ok
unfolding trust
returns-in-Ok g c = λ final.
    let policy = reads (reads (reads begins c.in_ok-root.ensures.read) c.in_ok-chain.ensures.read) c.in_ok-policy.ensures.read in
    let accepts = subst (λ (b : List ℕ). Accepts c.in_ok-root.root b c.args.names.now.key c.in-Ok.report) c.deref.ensures.value c.in-Ok.ensures.accepted in
    (finds policy (chain_acceptance c.in-Ok.report) accepts).lead _ _ (c.judge.ensures final)

pub returns : goal.returns
unfolding trust
returns g c = λ final.
    let policy = reads (reads (reads begins c.in_ok-root.ensures.read) c.in_ok-chain.ensures.read) c.in_ok-policy.ensures.read in
    let refused = subst (λ (b : List ℕ). (reason : ChainRefusal) → chain_refusal_of c.in-Err.why ≡ Some reason → IsRefused c.in_ok-root.root b c.args.names.now.key reason)
    c.deref.ensures.value c.in-Err.ensures.refused in
    chain_not_judged (policy_items c.in_ok-policy.policy) (chain_refusal_of c.in-Err.why) _ policy refused c.end_of.ensures refl refl
