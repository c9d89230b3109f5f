use Rattle.std.proofs.Common.{◌≡◌, ◌∙◌, length, vec_len, arith}
use Rattle.std.proofs.lemmas.List.{take_at}
use Rattle.mb_area.proofs.Published.{sector_is}
use Rattle.mb_area.proofs.public.read_sector.Goals as goal

pub returns-clause-read : goal.returns-clause-read
returns-clause-read g c =
    let ok = c.resize.ensures.succeeds (omega (arith, c.requires.room)) in
    let size : vec_len c.resize.new.self ≡ 4096 = rw ok at c.resize.ensures.len in
    take_at c.flash_read.new.out _ _ (omega (arith, c.deref_mut.ensures.len)) ∙ c.flash_read.ensures
    ∙ sector_is (g.B.Board.seen c.args.b.now).memory.flash c.args.number c.from.result (length c.deref_mut.result.now) c.from.ensures (omega (arith, c.deref_mut.ensures.len, size))
