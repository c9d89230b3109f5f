use Rattle.std.proofs.Common.{rules}
use Rattle.mb_area.proofs.Published.{log_agrees, flash_kept}
use Rattle.mb_area.proofs.public.write_log.Goals as goal

pub returns-in-Ok : goal.returns-in-Ok
returns-in-Ok g c =
    let agree = log_agrees (g.B.Board.seen c.args.b.now).memory (g.B.Board.seen c.store_sector.new.b).memory c.args.position c.log_sector.result c.log_sector.ensures c.requires.position.within
    c.requires.up.loaded.flash c.requires.position.uncounted c.store_sector.ensures.same in
    record {
      contents = flash_kept (g.B.Board.seen c.args.b.now).memory (g.B.Board.seen c.store_sector.new.b).memory agree c.store_sector.ensures.ran.bbram;
      agree = agree;
      same = search rules;
      written = search rules;
      idle = search rules;
      ran = search rules;
      plans = search rules;
    }

pub returns-in-Err : goal.returns-in-Err
returns-in-Err g c =
    let agree = log_agrees (g.B.Board.seen c.args.b.now).memory (g.B.Board.seen c.store_sector.new.b).memory c.args.position c.log_sector.result c.log_sector.ensures c.requires.position.within
    c.requires.up.loaded.flash c.requires.position.uncounted c.store_sector.ensures.same in
    record {
      contents = flash_kept (g.B.Board.seen c.args.b.now).memory (g.B.Board.seen c.store_sector.new.b).memory agree c.store_sector.ensures.ran.bbram;
      agree = agree;
      same = search rules;
      written = tt;
      idle = search rules;
      ran = search rules;
      plans = search rules;
    }
