use Rattle.std.proofs.Common.{rules}
use Rattle.mb_region.proofs.Replaced.{keep_finished, fate_done, fate_either, fate_means}
use Rattle.mb_region.proofs.stored.finish_fate.Goals as goal

pub returns-in-Keep : goal.returns-in-Keep
returns-in-Keep g c = keep_finished c.args.slot c.args.fate.now c.args.room.now (g.B.Board.seen c.args.b.now) c.requires.can_use c.in-Keep.is

pub returns : goal.returns
returns g c =
    let before = (g.B.Board.seen c.args.b.now).memory in
    let after = (g.B.Board.seen c.replace.new.b).memory in
    let given = c.replace.ensures in
    let either = fate_either c.args.slot c.args.fate.now before after c.deref.result.now c.fate_bytes.new.room.other.items c.requires.slot c.deref.ensures.value c.fate_bytes.ensures.spelled given.either in
    record {
      done = fate_done c.args.slot c.args.fate.now before after c.deref.result.now c.fate_bytes.new.room.other.items c.replace.result c.requires.slot c.deref.ensures.value c.fate_bytes.ensures.spelled given.done;
      either = either;
      meaning = λ state. fate_means c.args.slot c.args.fate.now before after state c.requires.slot given.ran.ran.sized c.requires.pending either;
      idle = search rules;
      besides = given.besides;
      ran = given.ran;
      plans = search rules;
    }
