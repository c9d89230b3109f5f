-- What a board's memory holds, and its regions by the number of their slot.
use Rattle.std.specs.Prelude.{ℕ, ◌==◌, Option, Some, if◌then◌else◌}
use Rattle.mb_model.specs.declared.region.Region.{Region}
use Rattle.mb_model.specs.declared.state.State.{State}
use Rattle.mb_model.specs.declared.stored.Fate.{Fate}
use Rattle.mb_model.specs.declared.stored.Pending.{Pending}
use Rattle.mb_model.specs.outside.Board.{Memory}
use Rattle.mb_model.specs.memories.Meaning.{Contents, HoldsContents, StandsFor, fate_of_two, fate_of_three}
use Rattle.mb_model.specs.memories.Clean.{IsCleanFor}
use Rattle.mb_model.specs.memories.Valid.{IsValidState}

-- the memory holds these contents
abbrev pub Holds : Memory → Contents → Type 0
Holds memory contents = HoldsContents memory.flash memory.bbram contents

-- whatever the memory held, it still holds
pub record KeepsContents (before after : Memory) : Type 0 where
  pub kept : (contents : Contents) → Holds before contents → Holds after contents

-- the memory means this live state
abbrev pub Means : Memory → State → Type 0
Means memory state = StandsFor memory.flash memory.bbram (Some state)

-- the memory still means every state that it meant
pub record KeepsMeaning (before after : Memory) : Type 0 where
  pub kept : (state : State) → Means before state → Means after state

-- A device with this memory is ready for an event: the memory means this state, which a device can have, and it is
-- clean, so that no work is pending and no secret lies in it but those of the state.
pub record IsReady (memory : Memory) (state : State) : Type 0 where
  pub means : Means memory state
  pub valid : IsValidState state
  pub clean : IsCleanFor memory.bbram state

-- a device with this memory is ready for an event, in some state
pub record HasReady (memory : Memory) : Type 0 where
  pub state : State
  pub ready : IsReady memory state

-- the region in slot 2 or 3
abbrev pub region_in_slot : ℕ → Contents → Region
region_in_slot slot contents = if slot == 2 then contents.two else contents.three

-- the contents with this region in slot 2 or 3
abbrev pub with_region_in : ℕ → Region → Contents → Contents
with_region_in slot region contents =
    if slot == 2 then record contents { two = region } else record contents { three = region }

-- what is to be done to the region in slot 2 or 3
abbrev pub fate_in_slot : ℕ → Option Pending → Fate
fate_in_slot slot pending = if slot == 2 then fate_of_two pending else fate_of_three pending
