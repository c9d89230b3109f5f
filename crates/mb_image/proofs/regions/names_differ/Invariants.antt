use Rattle.std.proofs.Common.{take}
use Rattle.std.specs.Prelude.{AllPairs}
use Rattle.mb_image.proofs.RegionSteps.{Differ}
use Rattle.mb_image.proofs.regions.names_differ.Given as goal

abbrev pub invariant-loop-at : goal.invariant-loop-at
invariant-loop-at l = AllPairs Differ (take l.at l.secrets)
