-- When battery-backed memory holds nothing but what its state says. Can a secret be left behind?
use Rattle.std.specs.Prelude.{◌≡◌, ℕ, List, length, Option, None, Some}
use Rattle.mb_model.specs.declared.limits.TheConstants.{BBRAM_LENGTH}
use Rattle.mb_model.specs.declared.state.State.{State}
use Rattle.mb_model.specs.declared.stored.Root.{Root}
use Rattle.mb_model.specs.memories.Memory.{area_of_slot, inactive_area_of_slot, IsBlank}
use Rattle.mb_model.specs.memories.Meaning.{RootIn, HoldsRegion}

-- the root record of a state, with no pending work and with this area of the flash current
abbrev pub root_of : State → ℕ → Root
root_of state area =
    record { area = area; serial = state.serial; device = state.device; uses = state.uses; pending = None }

-- the current areas hold the state's records, and all else is zero but for the life byte and the selectors
pub record IsCleanFor (bbram : List ℕ) (state : State) : Type 0 where
  pub sized : length bbram ≡ BBRAM_LENGTH
  pub area : ℕ
  pub root : RootIn bbram (root_of state area)
  pub two : HoldsRegion (area_of_slot bbram 2) state.two
  pub three : HoldsRegion (area_of_slot bbram 3) state.three
  pub other_root : IsBlank (inactive_area_of_slot bbram 1)
  pub other_two : IsBlank (inactive_area_of_slot bbram 2)
  pub other_three : IsBlank (inactive_area_of_slot bbram 3)

-- battery-backed memory is clean for a state; for a dead device it is all zero
abbrev pub Clean : List ℕ → Option State → Type 0
Clean bbram None = (length bbram ≡ BBRAM_LENGTH) × IsBlank bbram
Clean bbram (Some state) = IsCleanFor bbram state
