use Rattle.std.proofs.Common.{rules}
use Rattle.mb_area.proofs.Published.{sector_written, sector_there}
use Rattle.mb_area.proofs.public.store_sector.Goals as goal

pub returns : goal.returns
returns g c = record {
  same = search rules;
  written = sector_written c.args.number (g.B.Board.seen c.args.b.now).memory.flash (g.B.Board.seen c.write_sector.new.b).memory.flash c.args.bytes.now c.write_sector.result c.requires.bytes.1
      c.write_sector.ensures.same c.write_sector.ensures.written;
  idle = λ there. c.write_sector.ensures.idle (sector_there (g.B.Board.seen c.args.b.now).memory.flash c.args.bytes.now c.args.number c.requires.bytes.1 there);
  ran = c.write_sector.ensures.ran;
}
