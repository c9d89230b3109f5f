use Rattle.std.proofs.Common.{ℕ, List, refl, subst}
use Rattle.mb_model.specs.chains.Acceptance.{Accepts, IsRefused, chain_acceptance}
use Rattle.mb_model_commands.specs.VerifyCommand.{verify}
use Rattle.mb_verifier.specs.Ends.{chain_refusal_of}
use Rattle.mb_console.proofs.Leading.{begins, reads, finds, stops_at_input}
use Rattle.mb_tools.proofs.ChainLemmas.{IfReason, chain_refused}
use Rattle.mb_tools.proofs.verify.verify.Goals as goal

pub returns-in_err-root : goal.returns-in_err-root
unfolding verify
returns-in_err-root g c = λ final. stops_at_input _ _ _ begins c.from_residual.ensures.1 c.in_err-root.ensures.err refl refl

pub returns-in_err-chain : goal.returns-in_err-chain
unfolding verify
returns-in_err-chain g c = λ final. stops_at_input _ _ _ (reads begins c.in_ok-root.ensures.read) c.from_residual-in_err-chain.ensures.1 c.in_err-chain.ensures.err refl refl

pub returns-in-Ok : goal.returns-in-Ok
unfolding verify
returns-in-Ok g c = λ final.
    let chain = reads (reads begins c.in_ok-root.ensures.read) c.in_ok-chain.ensures.read in
    let accepts = subst (λ (b : List ℕ). Accepts c.in_ok-root.root b c.args.names.now.key c.in-Ok.report) c.deref.ensures.value c.in-Ok.ensures.accepted in
    (finds chain (chain_acceptance c.in-Ok.report) accepts).lead _ _ (c.print_report.ensures final)

pub returns : goal.returns
unfolding verify
returns g c = λ final.
    let chain = reads (reads begins c.in_ok-root.ensures.read) c.in_ok-chain.ensures.read in
    let refused = subst (λ (b : List ℕ). IfReason (chain_refusal_of c.in-Err.why) (IsRefused c.in_ok-root.root b c.args.names.now.key)) c.deref.ensures.value c.in-Err.ensures.refused in
    chain_refused _ (chain_refusal_of c.in-Err.why) _ chain refused c.end_of.ensures refl refl
