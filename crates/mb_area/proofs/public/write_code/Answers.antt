use Rattle.std.proofs.Common.{length, ap, arith, rules}
use Rattle.mb_area.proofs.Published.{area_small, code_agrees, is_free, slot_there}
use Rattle.mb_area.proofs.public.write_code.Goals as goal

pub slot_named-named-requires-clause-area : goal.slot_named-named-requires-clause-area
slot_named-named-requires-clause-area g c = area_small (g.B.Board.seen c.args.b.now).memory c.args.area c.requires.current

pub returns : goal.returns
returns g c =
    let slot = slot_there c.free_slot.result c.slot_named-named.result c.free_slot.ensures in
    record {
      agree = code_agrees (g.B.Board.seen c.args.b.now).memory.flash (g.B.Board.seen c.store_code.new.b).memory.flash c.args.area c.args.room.now.code_layer c.free_slot.result (length c.deref.result.now)
          (area_small (g.B.Board.seen c.args.b.now).memory c.args.area c.requires.current) (omega (arith, c.if-room-eq0.false)) c.requires.plan.layer slot.0 slot.1
          (is_free (g.B.Board.seen c.args.b.now).memory.flash c.args.area c.args.room.now.code_layer c.free_slot.result c.slot_named-named.result c.free_slot.ensures c.slot_named-named.ensures.named)
          c.requires.powered.loaded.flash (omega (arith, c.requires.plan.code, c.deref.ensures.len, ap length c.deref.ensures.value)) c.store_code.ensures.same;
      code = λ header holds. record { same = search rules; written = search rules; idle = search rules };
      ran = search rules;
      plans = search rules;
    }
