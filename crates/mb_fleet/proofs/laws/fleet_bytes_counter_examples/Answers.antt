use Rattle.mb_fleet.proofs.ExampleProofs.{bytes_counter_examples}
use Rattle.mb_fleet.proofs.laws.fleet_bytes_counter_examples.Goals as goal

pub returns : goal.returns
returns c = bytes_counter_examples
