-- Which fault an answer names.
use Rattle.std.specs.Prelude.{Option, Some, None}
use Rattle.mb_model.specs.memories.Faults.{Fault, bad_length, bad_root, bad_public, bad_region_two, bad_region_three}
use Rattle.mb_model.specs.memories.Faults.{bad_state}
use Rattle.mb_image.specs.declared.image.ImageEnd.{ImageEnd}
use Rattle.mb_image.specs.declared.image.ImageEnd.TheVariants as end

-- the fault that an answer names; a failed allocation is none
abbrev pub fault_of : ImageEnd → Option Fault
fault_of end.Length = Some bad_length
fault_of end.Root = Some bad_root
fault_of end.Public = Some bad_public
fault_of end.RegionTwo = Some bad_region_two
fault_of end.RegionThree = Some bad_region_three
fault_of end.State = Some bad_state
fault_of end.NoMemory = None
