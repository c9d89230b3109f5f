-- How `enrol` ends if a register does not take a chain. Is each refusal told by the line of the register's answer?
use Rattle.std.specs.Prelude.{◌≡◌, ◌⊎◌, ℕ, List, codes}
use Rattle.mb_console.specs.declared.end.End.{End}
use Rattle.mb_console.specs.declared.end.End.TheVariants as end
use Rattle.mb_console.specs.Ending.{RefusesWith}
use Rattle.mb_fleet.specs.declared.end.FleetEnd.{FleetEnd}
use Rattle.mb_fleet.specs.declared.end.FleetEnd.TheVariants as fleet
use Rattle.mb_fleet.specs.Serving.{device_line}
use Rattle.mb_verifier.specs.Ends.{chain_refusal_of}
use Rattle.mb_tools.specs.Chains.{TellsRefusal}

-- the line of words, the serial of a device and a number is told, unless an allocation fails
abbrev pub TellsDevice : List ℕ → List ℕ → ℕ → End → Type 0
TellsDevice words serial n why = RefusesWith (device_line words serial n) why ⊎ (why ≡ end.NoMemory)

abbrev pub RefusesChain : FleetEnd → End → Type 0
RefusesChain (fleet.Chain refusal) why = TellsRefusal (chain_refusal_of refusal) why
RefusesChain (fleet.Older serial have) why = TellsDevice (codes "refused 31 older") serial have why
RefusesChain (fleet.Fork serial place) why = TellsDevice (codes "refused 30 fork") serial place why
RefusesChain fleet.Full why = RefusesWith (codes "refused 32 full") why
RefusesChain fleet.NoMemory why = why ≡ end.NoMemory
