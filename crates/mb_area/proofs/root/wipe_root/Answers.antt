use Rattle.std.proofs.Common.{rules}
use Rattle.mb_area.proofs.Rooted.{kept_in_force}
use Rattle.mb_area.proofs.root.wipe_root.Goals as goal

pub returns-in-Ok : goal.returns-in-Ok
returns-in-Ok g c =
    let wiped = c.in-Ok.ensures in
    record {
      blank = wiped.blank;
      contents = kept_in_force (g.B.Board.seen c.args.b.now).memory (g.B.Board.seen c.wipe_other.new.b).memory wiped.besides wiped.current wiped.ran.flash;
      idle = wiped.idle;
      ran = search rules;
    }

pub returns-in-Err : goal.returns-in-Err
returns-in-Err g c =
    let wiped = c.in-Err.ensures in
    record {
      blank = tt;
      contents = kept_in_force (g.B.Board.seen c.args.b.now).memory (g.B.Board.seen c.wipe_other.new.b).memory wiped.besides wiped.current wiped.ran.flash;
      idle = wiped.idle;
      ran = search rules;
    }
