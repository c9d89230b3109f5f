use Rattle.std.proofs.Common.{◌∙◌, ap, length, List, ℕ, arith}
use Rattle.mb_model.specs.records.HeaderFormat.{header_format}
use Rattle.mb_model.specs.memories.Sectors.{BeginsAs}
use Rattle.mb_model_lemmas.proofs.OneFlash.{sector_short}
use Rattle.mb_area.specs.Flashes.{BeginWithHeader}
use Rattle.mb_area.proofs.Published.{as_read}
use Rattle.mb_area.proofs.public.slot_named.Goals as goal

pub slot_at-requires-clause-short : goal.slot_at-requires-clause-short
slot_at-requires-clause-short g c =
    omega (arith, sector_short (g.B.Board.seen c.args.b.now).memory.flash c.header_sector.result, ap length (c.deref.ensures.value ∙ c.read_sector.ensures.read))

pub slot_at-requires-clause-header : goal.slot_at-requires-clause-header
slot_at-requires-clause-header g c =
    as_read BeginWithHeader (g.B.Board.seen c.args.b.now).memory.flash c.deref.result.now c.header_sector.result c.args.area c.header_sector.ensures (c.deref.ensures.value ∙ c.read_sector.ensures.read)
    c.requires.header

pub returns-clause-named : goal.returns-clause-named
returns-clause-named g c = λ header holds.
    c.slot_at.ensures header
    (as_read (λ (xs : List ℕ). BeginsAs header_format xs header) (g.B.Board.seen c.args.b.now).memory.flash c.deref.result.now c.header_sector.result c.args.area c.header_sector.ensures
    (c.deref.ensures.value ∙ c.read_sector.ensures.read) holds)
