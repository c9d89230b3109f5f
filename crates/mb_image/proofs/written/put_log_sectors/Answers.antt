use Rattle.std.proofs.Common.{ap, length, arith}
use Rattle.mb_model.specs.memories.WrittenFlash.{sectors_of}
use Rattle.mb_model_lemmas.proofs.WrittenLemmas.{length-sectors}
use Rattle.mb_image.proofs.WrittenSectors.{padded}
use Rattle.mb_image.proofs.written.put_log_sectors.Goals as goal

pub overflow_sub-len-2 : goal.overflow_sub-len-2
overflow_sub-len-2 c =
    omega (arith, ap length (ap sectors_of c.as_slice.ensures), length-sectors c.args.log.now c.requires.allowed, c.requires.few, c.in_ok-put_entries.ensures.len, c.len.ensures, c.len-start.ensures)

pub returns : goal.returns
returns c =
    rw (← c.as_slice.ensures) (padded 128 (sectors_of c.as_slice.result.now) _ _ _ _ _ c.in_ok-put_entries.ensures (omega (arith, c.len.ensures, c.len-start.ensures)) c.put_erased.ensures)
