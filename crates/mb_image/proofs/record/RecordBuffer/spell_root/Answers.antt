use Rattle.std.proofs.Common.{arith}
use Rattle.mb_model.proofs.FormatBounds.{root_short}
use Rattle.mb_image.proofs.Writing.{buffer_keeps_room, buffer_never_fails}
use Rattle.mb_image.proofs.record.RecordBuffer.spell_root.Goals as goal

pub invariant_of-self : goal.invariant_of-self
invariant_of-self c =
    record { room = buffer_keeps_room _ _ _ _ c.write_root.ensures c.clear.ensures.len (omega (arith, c.clear.ensures.capacity, c.args.self.now.room)) (omega (arith, root_short.short c.args.root.now c.requires)) }

pub unreachable-requires : goal.unreachable-requires
unreachable-requires c =
    buffer_never_fails _ _ _ _ c.write_root.ensures c.clear.ensures.len (omega (arith, c.clear.ensures.capacity, c.args.self.now.room)) (omega (arith, root_short.short c.args.root.now c.requires)) c.in_default.not-Ok
