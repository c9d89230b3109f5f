use Rattle.mb_appvm.proofs.Positions.{label_first, jump_target}
use Rattle.mb_appvm.proofs.checking.is_sound.Goals as goal

pub returns-in-Label : goal.returns-in-Label
returns-in-Label c =
    label_first c.is_first.result c.args.line.now c.in-Label.name c.as_slice.result.now c.args.lines.now c.args.later.now c.args.at c.in-Label.is c.as_slice.ensures c.is_first.ensures

pub returns-then-gives : goal.returns-then-gives
returns-then-gives c =
    jump_target c.gives.result c.args.line.now c.in-JumpTo.field-0 c.in-JumpTo.name c.as_slice-in-JumpTo.result.now c.args.lines.now c.args.later.now c.args.at c.in-JumpTo.is
    c.as_slice-in-JumpTo.ensures c.if-gives.ensures c.if-gives.true
