use Rattle.std.proofs.Common.{◌∙◌}
use Rattle.mb_region.proofs.Replaced.{no_region_held, region_found, bytes_read, finds_none, finds_some}
use Rattle.mb_region.proofs.stored.load_region.Goals as goal

pub unreachable-requires : goal.unreachable-requires
unreachable-requires g c = no_region_held _ c.deref.result.now (c.deref.ensures.value ∙ c.read_area.ensures.read) c.requires.held (finds_none c.in-None.is c.in_ok-region.ensures)

pub returns-clause-region : goal.returns-clause-region
returns-clause-region g c = λ region has.
    region_found _ c.deref.result.now c.in-Some.region region (bytes_read c.deref.ensures.value c.read_area.ensures.bytes) (c.deref.ensures.value ∙ c.read_area.ensures.read) (finds_some c.in-Some.is c.in_ok-region.ensures) has
