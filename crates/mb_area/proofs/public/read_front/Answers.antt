use Rattle.std.proofs.Common.{◌∙◌, length}
use Rattle.mb_area.proofs.Published.{front_read}
use Rattle.mb_area.proofs.public.read_front.Goals as goal

pub returns : goal.returns
returns g c =
    c.flash_read.ensures
    ∙ front_read (g.B.Board.seen c.args.b.now).memory.flash c.args.layer c.args.slot c.from.result (length c.args.out.now) (c.from.ensures ∙ c.code_sector-first.ensures) c.requires.short
