use Rattle.std.proofs.Common.{arith}
use Rattle.mb_device_orders.proofs.Headers.{some_header, one_read, next_allowed, header_written, header_kept, header_spelled}
use Rattle.mb_device_orders.proofs.header.put_header.Goals as goal

pub stored_header-stored-requires-clause-some : goal.stored_header-stored-requires-clause-some
stored_header-stored-requires-clause-some c = some_header c.args.order.now.layer c.args.order.now.act c.args.entries.now c.args.room.now.header.items c.deref.result.now c.deref.ensures.value c.requires.takes

pub returns-in_err-first-clause-one : goal.returns-in_err-first-clause-one
returns-in_err-first-clause-one c = λ header other begins begins_other. one_read _ _ _ _ _ c.deref.ensures.value c.stored_header-stored.ensures begins begins_other

pub returns-in_err-second-clause-one : goal.returns-in_err-second-clause-one
returns-in_err-second-clause-one c = λ header other begins begins_other. one_read _ _ _ _ _ c.deref.ensures.value c.stored_header-stored.ensures begins begins_other

pub write_header-requires : goal.write_header-requires
write_header-requires c =
    next_allowed c.args.room.now.header.items c.deref.result.now _ c.header_after-next.result c.args.order.now.layer c.args.order.now.act c.args.entries.now c.in_ok-first.first c.in_ok-second.second c.deref.ensures.value c.stored_header-stored.ensures
    c.in_ok-first.ensures c.in_ok-second.ensures c.header_after-next.ensures c.requires.takes

pub invariant_of-room-clause-header_room : goal.invariant_of-room-clause-header_room
invariant_of-room-clause-header_room c =
    let allowed = next_allowed c.args.room.now.header.items c.deref.result.now _ c.header_after-next.result c.args.order.now.layer c.args.order.now.act c.args.entries.now c.in_ok-first.first c.in_ok-second.second c.deref.ensures.value c.stored_header-stored.ensures
    c.in_ok-first.ensures c.in_ok-second.ensures c.header_after-next.ensures c.requires.takes in
    let kept = header_kept c.header_after-next.result c.clear.new.self c.write_header.new.out c.write_header.result allowed c.clear.ensures.len (omega (arith, c.clear.ensures.capacity, c.args.room.now.header_room)) c.write_header.ensures in
    omega (arith, kept, c.clear.ensures.capacity, c.args.room.now.header_room)

pub returns : goal.returns
returns c =
    let allowed = next_allowed c.args.room.now.header.items c.deref.result.now _ c.header_after-next.result c.args.order.now.layer c.args.order.now.act c.args.entries.now c.in_ok-first.first c.in_ok-second.second c.deref.ensures.value c.stored_header-stored.ensures
    c.in_ok-first.ensures c.in_ok-second.ensures c.header_after-next.ensures c.requires.takes in
    let spells = header_written c.header_after-next.result c.clear.new.self c.write_header.new.out c.write_header.result allowed c.clear.ensures.items c.clear.ensures.len (omega (arith, c.clear.ensures.capacity, c.args.room.now.header_room)) c.write_header.ensures in
    record {
      one = λ header other begins begins_other. one_read _ _ _ _ _ c.deref.ensures.value c.stored_header-stored.ensures begins begins_other;
      spelled = λ header begins.
          header_spelled c.args.room.now.header.items c.deref.result.now _ header c.header_after-next.result c.args.order.now.layer c.args.order.now.act c.args.entries.now c.in_ok-first.first c.in_ok-second.second c.write_header.new.out.items
          c.deref.ensures.value c.stored_header-stored.ensures c.in_ok-first.ensures c.in_ok-second.ensures c.header_after-next.ensures spells begins;
    }
