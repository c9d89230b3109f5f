use Rattle.mb_fleet.proofs.ExampleProofs.{bytes_examples}
use Rattle.mb_fleet.proofs.laws.fleet_bytes_examples.Goals as goal

pub returns : goal.returns
returns c = bytes_examples
