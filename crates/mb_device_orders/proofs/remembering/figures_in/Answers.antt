use Rattle.std.proofs.Common.{◌+◌, ◌∙◌, sym, subst}
use Rattle.mb_model.specs.declared.state.Figures.{Figures}
use Rattle.mb_device_orders.proofs.Counting.{Counts, counts_more, counts_still}
use Rattle.mb_device_orders.proofs.remembering.figures_in.Goals.{in-Some, in_default}
use Rattle.mb_device_orders.proofs.remembering.figures_in.Goals as goal

pub loop-position-preserved : goal.loop-position-preserved
loop-position-preserved g c = elim c.match-entry_at.branch [
  | in-Some w ↦ counts_more (g.B.Board.seen c.args.b.now).memory.flash c.args.signed c.loop-position.figures c.match-entry_at.figures c.loop-position.position w.in-Some.entry c.loop-position-test.true c.requires.few c.loop-position.invariant w.in-Some.ensures
      (λ before few is. w.figures-is ∙ w.add_entry.ensures before few is)
  | in_default w ↦ subst (λ (f : Figures). Counts (g.B.Board.seen c.args.b.now).memory.flash c.args.signed f (c.loop-position.position + 1)) (sym w.figures-is)
      (counts_still (g.B.Board.seen c.args.b.now).memory.flash c.args.signed c.loop-position.figures c.loop-position.position c.loop-position-test.true c.loop-position.invariant w.in_default.ensures)
]
