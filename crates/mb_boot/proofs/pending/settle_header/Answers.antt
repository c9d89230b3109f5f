use Rattle.std.proofs.Common.{sym, subst, ap, length, arith}
use Rattle.mb_model.specs.records.HeaderFormat.{header_format}
use Rattle.mb_segments.specs.Uncopied.{header_of}
use Rattle.mb_boot.proofs.Completed.{settled_allowed, header_put}
use Rattle.mb_boot.proofs.pending.settle_header.Goals as goal

pub write_header-requires : goal.write_header-requires
write_header-requires c =
    subst header_format.Allowed (sym c.settled_header-header.ensures) (settled_allowed c.as_slice.result.now (header_of c.held_header.result) c.held_header.ensures.holds c.held_header.ensures.few)

pub invariant_of-room-clause-header_room : goal.invariant_of-room-clause-header_room
invariant_of-room-clause-header_room c =
    (header_put c.args.room.now.header.items c.as_slice.result.now (header_of c.held_header.result) c.settled_header-header.result c.clear-2.new.self c.write_header.new.out c.write_header.result c.as_slice.ensures.value c.settled_header-header.ensures
    c.held_header.ensures.holds c.held_header.ensures.only c.held_header.ensures.few c.clear-2.ensures.items c.clear-2.ensures.len (omega (arith, c.args.room.now.header_room, c.clear-2.ensures.capacity)) c.write_header.ensures).room

pub returns-clause-settled : goal.returns-clause-settled
returns-clause-settled c =
    (header_put c.args.room.now.header.items c.as_slice.result.now (header_of c.held_header.result) c.settled_header-header.result c.clear-2.new.self c.write_header.new.out c.write_header.result c.as_slice.ensures.value c.settled_header-header.ensures
    c.held_header.ensures.holds c.held_header.ensures.only c.held_header.ensures.few c.clear-2.ensures.items c.clear-2.ensures.len (omega (arith, c.args.room.now.header_room, c.clear-2.ensures.capacity)) c.write_header.ensures).settled

pub returns-clause-plan : goal.returns-clause-plan
returns-clause-plan c =
    let put = header_put c.args.room.now.header.items c.as_slice.result.now (header_of c.held_header.result) c.settled_header-header.result c.clear-2.new.self c.write_header.new.out c.write_header.result c.as_slice.ensures.value c.settled_header-header.ensures
    c.held_header.ensures.holds c.held_header.ensures.only c.held_header.ensures.few c.clear-2.ensures.items c.clear-2.ensures.len (omega (arith, c.args.room.now.header_room, c.clear-2.ensures.capacity)) c.write_header.ensures in
    record { layer = omega arith; code = omega (arith, ap length c.clear.ensures.items); some = put.some; header = put.short }
