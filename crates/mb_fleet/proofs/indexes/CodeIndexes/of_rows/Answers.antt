use Rattle.std.proofs.Common.{subst}
use Rattle.mb_fleet.specs.declared.row.Row.{Row}
use Rattle.mb_fleet.specs.Indexes.{AreChangesOf}
use Rattle.mb_fleet.proofs.Indexing.{put_last, indexes_then}
use Rattle.mb_fleet.proofs.indexes.CodeIndexes.of_rows.Goals as goal

pub loop-row-preserved : goal.loop-row-preserved
loop-row-preserved c = indexes_then c.prepare.new.self c.change.new.self c.in_ok-change.change _ _ _ c.none.result
    (put_last c.args.rows.now c.loop-row.row-index c.row-item.result c.none.result c.loop-row-test.true c.requires)
    (c.in_ok-change.ensures.same _ c.loop-row.invariant)
    (subst (λ (r : Row). AreChangesOf c.prepare.new.self r.serial c.none.result r.code c.in_ok-change.change) c.row-item.is c.in_ok-change.ensures.ready) c.change.ensures
