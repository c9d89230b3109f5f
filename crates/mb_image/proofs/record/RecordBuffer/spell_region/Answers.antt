use Rattle.std.proofs.Common.{arith}
use Rattle.mb_image.proofs.Writing.{buffer_keeps_room, buffer_never_fails, record_fits}
use Rattle.mb_image.proofs.record.RecordBuffer.spell_region.Goals as goal

pub invariant_of-self-2 : goal.invariant_of-self-2
invariant_of-self-2 c =
    let fits = record_fits c.args.region.now c.is_empty.result c.is_empty.ensures c.if-is_empty.false c.requires in
    record { room = buffer_keeps_room _ _ _ _ c.write_region.ensures c.clear.ensures.len (omega (arith, c.clear.ensures.capacity, c.args.self.now.room)) fits }

pub unreachable-requires : goal.unreachable-requires
unreachable-requires c =
    let fits = record_fits c.args.region.now c.is_empty.result c.is_empty.ensures c.if-is_empty.false c.requires in
    buffer_never_fails _ _ _ _ c.write_region.ensures c.clear.ensures.len (omega (arith, c.clear.ensures.capacity, c.args.self.now.room)) fits c.in_default.not-Ok
