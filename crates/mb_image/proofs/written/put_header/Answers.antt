use Rattle.std.proofs.Common.{ap, sym, subst, length, arith}
use Rattle.mb_model.specs.declared.stored.Header.{Header}
use Rattle.mb_model.specs.records.HeaderFormat.{header_format}
use Rattle.mb_model.specs.memories.WrittenFlash.{first_header}
use Rattle.mb_model.proofs.FormatBounds.{header_short}
use Rattle.mb_model_lemmas.proofs.WrittenLemmas.{first_allowed}
use Rattle.mb_image.proofs.WrittenSectors.{padded}
use Rattle.mb_image.proofs.written.put_header.Goals as goal

pub write_header-requires : goal.write_header-requires
write_header-requires c = subst header_format.Allowed (sym c.header_of-header.ensures) (first_allowed c.args.state.now.codes c.args.state.now.log c.requires.codes c.requires.log)

pub overflow_sub-len-2 : goal.overflow_sub-len-2
overflow_sub-len-2 c =
    let allowed = first_allowed c.args.state.now.codes c.args.state.now.log c.requires.codes c.requires.log in
    omega (arith, header_short.short (first_header c.args.state.now.codes c.args.state.now.log) allowed, ap (λ (header : Header). length (header_format.spelling header)) c.header_of-header.ensures, c.in_ok-write_header.ensures.len, c.len.ensures, c.len-start.ensures)

pub returns : goal.returns
returns c = rw (← c.header_of-header.ensures) (padded 2 (header_format.spelling c.header_of-header.result) _ _ _ _ _ c.in_ok-write_header.ensures (omega (arith, c.len.ensures, c.len-start.ensures)) c.put_erased.ensures)
