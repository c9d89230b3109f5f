use Rattle.std.proofs.Common.{ℕ, List, refl, subst}
use Rattle.mb_console.proofs.Leading.{begins, reads, finds, stops_at_input}
use Rattle.mb_tools_shown.specs.HistoryCommand.{history, has_history, IsFinding}
use Rattle.mb_tools_shown.proofs.HistoryLemmas.{log_is_ruled, entries_few, chain_untold}
use Rattle.mb_verifier.specs.Ends.{chain_refusal_of}
use Rattle.mb_tools_shown.proofs.history.history.Goals as goal

pub tell-requires-clause-short : goal.tell-requires-clause-short
tell-requires-clause-short g c = entries_few c.in-Ok.told.chain c.in-Ok.ensures.found.0.spelled.allowed

pub tell-requires-clause-ruled : goal.tell-requires-clause-ruled
tell-requires-clause-ruled g c = log_is_ruled c.in_ok-root.root c.in-Ok.told.chain c.in-Ok.ensures.found.0.good

pub returns-in_err-root : goal.returns-in_err-root
unfolding history
returns-in_err-root g c = λ final. stops_at_input _ _ _ begins c.from_residual.ensures.1 c.in_err-root.ensures.err refl refl

pub returns-in_err-chain : goal.returns-in_err-chain
unfolding history
returns-in_err-chain g c = λ final. stops_at_input _ _ _ (reads begins c.in_ok-root.ensures.read) c.from_residual-in_err-chain.ensures.1 c.in_err-chain.ensures.err refl refl

pub returns-in-Ok : goal.returns-in-Ok
unfolding history
returns-in-Ok g c = λ final.
    let chain = reads (reads begins c.in_ok-root.ensures.read) c.in_ok-chain.ensures.read in
    let found = subst (λ (b : List ℕ). IsFinding c.in_ok-root.root b (has_history c.in-Ok.told.chain c.in-Ok.told.signer)) c.deref.ensures.value c.in-Ok.ensures.found in
    (finds chain (has_history c.in-Ok.told.chain c.in-Ok.told.signer) found).lead _ _ (c.tell.ensures final)

pub returns : goal.returns
unfolding history
returns g c = λ final.
    let chain = reads (reads begins c.in_ok-root.ensures.read) c.in_ok-chain.ensures.read in
    chain_untold (chain_refusal_of c.in-Err.why) _ chain (rw c.deref.ensures.value at c.in-Err.ensures.refused) c.end_of.ensures refl refl
