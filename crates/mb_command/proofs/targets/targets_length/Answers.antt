use Rattle.std.proofs.Common.{◌∙◌, length, arith}
use Rattle.mb_model.specs.records.OrderFormat.{target_format}
use Rattle.mb_bytes.proofs.Putting.{item_at}
use Rattle.mb_command.proofs.Lengths.{allowed_at, measured_next, measured_last, length-counted}
use Rattle.mb_command.proofs.targets.targets_length.Goals as goal

pub target_length-total-requires : goal.target_length-total-requires
target_length-total-requires c =
    let lt = rw c.as_slice-target-items.ensures at c.loop-target-test.true in
    rw c.as_slice-target-items.ensures (allowed_at target_format (length c.args.targets.now) c.args.targets.now c.requires.1 c.loop-target.target-index _ lt)

pub loop-target-preserved : goal.loop-target-preserved
loop-target-preserved c =
    let lt = rw c.as_slice-target-items.ensures at c.loop-target-test.true in
    let one = rw c.as_slice-target-items.ensures at c.target_length-total.ensures.length in
    (omega (arith, c.loop-target.invariant.0, c.target_length-total.ensures.most), rw one (measured_next _ (item_at c.args.targets.now c.loop-target.target-index _ lt) c.loop-target.invariant.1))

pub returns-clause-length : goal.returns-clause-length
returns-clause-length c =
    let le = rw c.as_slice-target-items.ensures at c.loop-target-test.false in
    measured_last le c.loop-target.invariant.1 ∙ length-counted target_format c.args.targets.now
