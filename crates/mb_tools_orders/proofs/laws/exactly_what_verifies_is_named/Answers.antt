use Rattle.mb_tools_orders.proofs.NamedSignatures.{exactly_named, device_finds}
use Rattle.mb_tools_orders.proofs.laws.exactly_what_verifies_is_named.Goals as goal

pub returns : goal.returns
returns c = record { named = exactly_named; device = device_finds }
