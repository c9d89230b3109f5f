-- What the calls of this crate promise, where that is longer than a line.
use Rattle.std.specs.Prelude.{◌≡◌, ℕ, ◌⊎◌, Result, OnOk, IfOk}
use Rattle.mb_board.specs.Calls.{Seen}
use Rattle.mb_layout.specs.Plans.{SamePlans}
use Rattle.mb_layout.specs.declared.room.Room.{Room}
use Rattle.mb_model.specs.declared.key.KeySeed.{KeySeed}
use Rattle.mb_model.specs.declared.region.Region.{Region}
use Rattle.mb_model.specs.declared.state.State.{State}
use Rattle.mb_model.specs.memories.Meaning.{HoldsRegion}
use Rattle.mb_model.specs.memories.Memory.{IsBlank, area_of_slot, inactive_area_of_slot}
use Rattle.mb_model_memory.specs.Holding.{Means}
use Rattle.mb_model_memory.specs.InForce.{AgreeBesides}
use Rattle.mb_region.specs.Regions.{HasNoFate, ReplacesRegion, KeepsOrReplaces, writes_over}
use Rattle.mb_slot.specs.Slots.{MakesWrites, RanInSlot}
use Rattle.mb_outbound.specs.declared.binding.BindEnd.{BindEnd}
use Rattle.mb_layout_edits.specs.Edits.{region_with_use}
use Rattle.mb_outbound.specs.Binding.{IsBound, BindOf, power_in, StaysUnbound, StoresUse, KeepsOrStoresUse, state_used}

-- A call has put a region into a slot, and wiped the old one, whichever region it was given. If power failed, the old
-- region or the new one is there. How many write calls there were is decided by the old region alone.
pub record PutsInSlot
    (slot : ℕ) (IsGiven : Region → Type 0) (room room_after : Room) {A E : Type 0} (result : Result A E)
    (before after : Seen) : Type 0 where
  pub done : (region : Region) → IsGiven region → OnOk result (ReplacesRegion slot region before.memory after.memory)
  pub either : (region : Region) → IsGiven region → KeepsOrReplaces slot region before.memory after.memory
  pub blank : OnOk result (IsBlank (inactive_area_of_slot after.memory.bbram slot))
  pub besides : AgreeBesides slot before.memory.bbram after.memory.bbram
  pub writes : (old : Region) → HoldsRegion (area_of_slot before.memory.bbram slot) old
      → MakesWrites (writes_over old) result before after
  pub ran : RanInSlot 3 slot result before after
  pub plans : SamePlans room room_after

-- A call has bound a key of the region in a slot, or has said why not.
pub record Binds
    (slot key : ℕ) {S : Type 0} (result : Result (S × ℕ × KeySeed) (BindEnd S)) (room room_after : Room)
    (before after : Seen) : Type 0 where
  pub bound : (region : Region) → HoldsRegion (area_of_slot before.memory.bbram slot) region
      → BindOf region key result
  pub done : OnOk result (StoresUse slot key before.memory after.memory)
  pub either : KeepsOrStoresUse slot key before.memory after.memory
  pub means : HasNoFate slot before.memory → (state : State) → Means before.memory state
      → OnOk result (Means after.memory (state_used slot key state))
  pub means_either : HasNoFate slot before.memory → (state : State) → Means before.memory state
      → Means after.memory state ⊎ Means after.memory (state_used slot key state)
  pub blank : OnOk result (IsBlank (inactive_area_of_slot after.memory.bbram slot))
  pub unwritten : StaysUnbound result before.memory after.memory before.meter after.meter
  pub besides : AgreeBesides slot before.memory.bbram after.memory.bbram
  pub ran : RanInSlot 3 slot (power_in result) before after
  pub plans : SamePlans room room_after

-- A call has bound a key of a region that it was given: that region, with one more use of the key, is in the slot.
pub record BindsGiven
    (slot key : ℕ) (region region_after : Region) {S E : Type 0} (result : Result (S × ℕ × KeySeed) E)
    (room room_after : Room) (before after : Seen) : Type 0 where
  pub bound : IfOk result (λ bound. IsBound region key bound.1 bound.2)
  pub used : region_after ≡ region_with_use key region
  pub puts : PutsInSlot slot (λ given. given ≡ region_with_use key region) room room_after result before after
