use Rattle.std.proofs.Common.{rules}
use Rattle.mb_area.proofs.Published.{code_stands, code_there}
use Rattle.mb_area.proofs.public.store_code.Goals as goal

pub returns : goal.returns
returns g c = record {
  same = search rules;
  written = code_stands c.args.layer c.args.slot c.code_sector.result (g.B.Board.seen c.write_sectors.new.b).memory.flash c.args.code.now c.write_sectors.result c.code_sector.ensures c.requires.code
      c.write_sectors.ensures.written;
  idle = λ there. c.write_sectors.ensures.idle
      (code_there (g.B.Board.seen c.args.b.now).memory.flash c.args.code.now c.args.layer c.args.slot c.code_sector.result c.code_sector.ensures c.requires.code there);
  ran = c.write_sectors.ensures.ran;
}
