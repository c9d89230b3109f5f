use Rattle.std.proofs.Common.{◌∙◌}
use Rattle.mb_region.proofs.Replaced.{no_bytes_held, still_stands}
use Rattle.mb_region.proofs.stored.count_keys_in.Goals as goal

pub unreachable-requires : goal.unreachable-requires
unreachable-requires g c = no_bytes_held _ c.deref.result.now (c.deref.ensures.value ∙ c.read_area.ensures.read) c.requires.held c.in_default.ensures

pub unreachable-requires-in-None : goal.unreachable-requires-in-None
unreachable-requires-in-None g c = c.in-None.ensures c.requires.held.region (still_stands c.deref.result.now c.in-Some.bytes.now c.requires.held.region (c.deref.ensures.value ∙ c.read_area.ensures.read) c.in-Some.ensures c.requires.held.holds)

pub returns-clause-count : goal.returns-clause-count
returns-clause-count g c = λ region has.
    c.in-Some-count_keys.ensures region (still_stands c.deref.result.now c.in-Some.bytes.now region (c.deref.ensures.value ∙ c.read_area.ensures.read) c.in-Some.ensures has)
