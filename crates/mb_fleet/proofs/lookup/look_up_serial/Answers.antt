use Rattle.std.proofs.Common.{sym, ◌∙◌}
use Rattle.mb_fleet.specs.Rows.{serial_of_row}
use Rattle.mb_fleet.proofs.Standing.{past_more, held_here, free_here, free_at_end}
use Rattle.mb_fleet.proofs.lookup.look_up_serial.Goals as goal

pub returns-in-Equal : goal.returns-in-Equal
returns-in-Equal c = held_here serial_of_row c.args.rows.now c.args.serial.now c.loop-index.index c.index-rows-index.result c.loop-index-test.true (sym c.cmp.ensures ∙ c.in-Equal.is)

pub returns-in-Greater : goal.returns-in-Greater
returns-in-Greater c = free_here serial_of_row c.args.rows.now c.args.serial.now c.loop-index.index c.index-rows-index.result c.loop-index-test.true c.requires c.loop-index.invariant (sym c.cmp.ensures ∙ c.in-Greater.is)

pub loop-index-preserved : goal.loop-index-preserved
loop-index-preserved c = past_more serial_of_row c.args.rows.now c.args.serial.now c.loop-index.index c.index-rows-index.result c.loop-index-test.true c.loop-index.invariant (sym c.cmp.ensures ∙ c.in-Less.is)

pub returns : goal.returns
returns c = free_at_end serial_of_row c.args.rows.now c.args.serial.now c.loop-index.index c.loop-index-test.false c.loop-index.invariant
