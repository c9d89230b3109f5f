-- How a command ends if its image has a fault, or if there is no memory to look for one. Is each fault reported at its
-- own place?
use Rattle.std.specs.Prelude.{◌≡◌, Option, Some, None}
use Rattle.mb_model.specs.memories.Faults.{Fault}
use Rattle.mb_model_commands.specs.declared.role.Role.TheVariants as role
use Rattle.mb_model_commands.specs.Inputs.{fault_place}
use Rattle.mb_console.specs.declared.end.End.{End}
use Rattle.mb_console.specs.declared.end.End.TheVariants as end

abbrev pub TellsFault : Option Fault → End → Type 0
TellsFault (Some faulty) why = why ≡ end.Faulty role.Image (fault_place faulty)
TellsFault None why = why ≡ end.NoMemory
