use Rattle.std.proofs.Common.{List, ℕ, Err, refl, subst}
use Rattle.mb_console.proofs.Leading.{begins, reads, finds, stops_at_input}
use Rattle.mb_fleet.specs.Ends.{answer_of, AnswersChain}
use Rattle.mb_tools_fleet.specs.EnrolCommand.{enrol}
use Rattle.mb_tools_fleet.proofs.EnrolLemmas.{chain_not_taken}
use Rattle.mb_tools_fleet.proofs.enrol.enrol.Goals as goal

pub returns-in_err-root : goal.returns-in_err-root
unfolding enrol
returns-in_err-root g c = λ final. stops_at_input _ _ _ begins c.from_residual.ensures.1 c.in_err-root.ensures.err refl refl

pub returns-in_err-fleet : goal.returns-in_err-fleet
unfolding enrol
returns-in_err-fleet g c = λ final. stops_at_input _ _ _ (reads begins c.in_ok-root.ensures.read) c.from_residual-in_err-fleet.ensures.1 c.in_err-fleet.ensures.err refl refl

pub returns-in_err-chain : goal.returns-in_err-chain
unfolding enrol
returns-in_err-chain g c = λ final.
    let fleet = reads (reads begins c.in_ok-root.ensures.read) c.in_ok-fleet.ensures.read in
    stops_at_input _ _ _ fleet c.from_residual-in_err-chain.ensures.1 c.in_err-chain.ensures.err refl refl

pub returns-in-Ok : goal.returns-in-Ok
unfolding enrol
returns-in-Ok g c = λ final.
    let chain = reads (reads (reads begins c.in_ok-root.ensures.read) c.in_ok-fleet.ensures.read) c.in_ok-chain.ensures.read in
    let shown = finds chain (record { answer = answer_of c.in-Ok.added; after = c.add.new.self }) (rw c.deref.ensures.value at c.in-Ok.ensures) in
    shown.lead _ _ (c.tell_added.ensures final)

pub returns : goal.returns
unfolding enrol
returns g c = λ final.
    let chain = reads (reads (reads begins c.in_ok-root.ensures.read) c.in_ok-fleet.ensures.read) c.in_ok-chain.ensures.read in
    let answered = subst (λ (bytes : List ℕ). AnswersChain c.in_ok-root.root c.in_ok-fleet.fleet bytes (Err c.in-Err.end) c.add.new.self) c.deref.ensures.value c.in-Err.ensures in
    chain_not_taken c.add.new.self c.in-Err.end c.refuse_chain.result chain answered c.refuse_chain.ensures refl refl
