use Rattle.mb_format.proofs.Whole.{IsClearWhole-from_exact}
use Rattle.mb_fleet.specs.ExactFormats.{register_exact}
use Rattle.mb_fleet.proofs.laws.registers_are_clear.Goals as goal

pub returns : goal.returns
returns c = IsClearWhole-from_exact register_exact
