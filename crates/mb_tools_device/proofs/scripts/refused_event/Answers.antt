use Rattle.std.proofs.Common.{inl, inr, sym, ap, ◌∙◌, length}
use Rattle.std.proofs.lemmas.Bool.{eqb-false}
use Rattle.mb_tools_device.proofs.RefusingLemmas.{one_more_uncut, all_uncut, refused_here}
use Rattle.mb_tools_device.proofs.scripts.refused_event.Goals as goal
use Rattle.mb_tools_device.proofs.scripts.refused_event.Goals.{then-index-eq-UNCUT_LIMIT-via-then-index-eq-UNCUT_LIMIT, then-index-eq-UNCUT_LIMIT-via-else-index-eq-UNCUT_LIMIT+then-is_cut}

pub returns-then-index-eq-UNCUT_LIMIT : goal.returns-then-index-eq-UNCUT_LIMIT
returns-then-index-eq-UNCUT_LIMIT c =
    refused_here c.args.events.now c.loop-index.index c.index-events-index.result c.loop-index.invariant c.loop-index-test.true c.index-events-index.is
    (elim c.then-index-eq-UNCUT_LIMIT.branch [
      | then-index-eq-UNCUT_LIMIT-via-then-index-eq-UNCUT_LIMIT w ↦ inr w.if-index-eq-UNCUT_LIMIT.true
      | then-index-eq-UNCUT_LIMIT-via-else-index-eq-UNCUT_LIMIT+then-is_cut w ↦ inl (sym w.is_cut.ensures ∙ w.if-is_cut.true)
    ])

pub loop-index-preserved : goal.loop-index-preserved
loop-index-preserved c =
    one_more_uncut c.args.events.now c.loop-index.index c.index-events-index.result c.loop-index.invariant c.loop-index-test.true c.index-events-index.is
    c.if-index-eq-UNCUT_LIMIT.false (sym c.is_cut.ensures ∙ c.if-is_cut.false)

pub returns-else-is_empty : goal.returns-else-is_empty
returns-else-is_empty c =
    all_uncut c.args.events.now c.loop-index.index c.loop-index.invariant c.loop-index-test.false
    (λ none. eqb-false _ _ (sym c.is_empty.ensures ∙ c.if-is_empty.false) (ap length none))
