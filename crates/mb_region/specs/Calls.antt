-- What the calls of this crate promise, where that is longer than a line.
use Rattle.std.specs.Prelude.{◌≡◌, ℕ, ◌≤◌, ◌⊎◌, List, Result, OnOk, vec_capacity}
use Rattle.std.specs.Global.{Vec}
use Rattle.mb_model.specs.declared.region.Region.{Region}
use Rattle.mb_model.specs.declared.state.State.{State}
use Rattle.mb_model.specs.declared.stored.Fate.{Fate}
use Rattle.mb_model.specs.declared.stored.Fate.TheVariants.{Keep}
use Rattle.mb_model.specs.memories.Memory.{IsBlank, area_of_slot, inactive_area_of_slot, HoldsInArea}
use Rattle.mb_model.specs.records.RegionFormat.{SpellsRegion}
use Rattle.mb_model.specs.owners.Regions.{with_region}
use Rattle.mb_model_memory.specs.Holding.{Means, KeepsContents}
use Rattle.mb_model_memory.specs.InForce.{AgreeBesides}
use Rattle.mb_board.specs.Calls.{Seen}
use Rattle.mb_slot.specs.Slots.{MakesWrites, WritesNothing, RanInOther, RanInSlot}
use Rattle.mb_layout.specs.declared.room.Room.{Room}
use Rattle.mb_layout.specs.Plans.{SamePlans}
use Rattle.mb_region.specs.Regions.{HasNoFate, ReplacesRegion, KeepsOrReplaces}
use Rattle.mb_region.specs.Fates.{AppliesFate, KeepsOrApplies}

-- `commit_bytes`: the current area of the slot holds these bytes
pub record CommitsBytes (slot : ℕ) (bytes : List ℕ) (area area_after : Vec ℕ)
    {A E : Type 0} (result : Result A E) (before after : Seen) : Type 0 where
  pub done : OnOk result (HoldsInArea (area_of_slot after.memory.bbram slot) bytes)
  pub either : (area_of_slot after.memory.bbram slot ≡ area_of_slot before.memory.bbram slot)
      ⊎ HoldsInArea (area_of_slot after.memory.bbram slot) bytes
  pub left : OnOk result (inactive_area_of_slot after.memory.bbram slot ≡ area_of_slot before.memory.bbram slot)
  pub besides : AgreeBesides slot before.memory.bbram after.memory.bbram
  pub writes : MakesWrites 2 result before after
  pub ran : RanInSlot 2 slot result before after
  pub capacity : vec_capacity area ≤ vec_capacity area_after

-- `replace`, `commit_record`: the region in the slot is the one that these bytes spell
pub record CommitsRecord (slot : ℕ) (bytes : List ℕ) (area area_after : Vec ℕ)
    {A E : Type 0} (result : Result A E) (before after : Seen) : Type 0 where
  pub done : (region : Region) → SpellsRegion bytes region
      → OnOk result (ReplacesRegion slot region before.memory after.memory)
  pub either : (region : Region) → SpellsRegion bytes region
      → KeepsOrReplaces slot region before.memory after.memory
  pub left : OnOk result (inactive_area_of_slot after.memory.bbram slot ≡ area_of_slot before.memory.bbram slot)
  pub besides : AgreeBesides slot before.memory.bbram after.memory.bbram
  pub writes : MakesWrites 2 result before after
  pub ran : RanInSlot 2 slot result before after
  pub capacity : vec_capacity area ≤ vec_capacity area_after

-- `store_region`, `commit_region`: the region in the slot is this one
pub record CommitsRegion (slot : ℕ) (region : Region) (room room_after : Room)
    {A E : Type 0} (result : Result A E) (before after : Seen) : Type 0 where
  pub done : OnOk result (ReplacesRegion slot region before.memory after.memory)
  pub either : KeepsOrReplaces slot region before.memory after.memory
  pub means : HasNoFate slot before.memory → (state : State) → Means before.memory state
      → OnOk result (Means after.memory (with_region state slot region))
  pub means_either : HasNoFate slot before.memory → (state : State) → Means before.memory state
      → Means after.memory state ⊎ Means after.memory (with_region state slot region)
  pub left : OnOk result (inactive_area_of_slot after.memory.bbram slot ≡ area_of_slot before.memory.bbram slot)
  pub besides : AgreeBesides slot before.memory.bbram after.memory.bbram
  pub writes : MakesWrites 2 result before after
  pub ran : RanInSlot 2 slot result before after
  pub plans : SamePlans room room_after

-- `finish_fate`, `apply_fate`: the region in the slot is what this fate makes of it
pub record FinishesFate (slot : ℕ) (fate : Fate) (room room_after : Room)
    {A E : Type 0} (result : Result A E) (before after : Seen) : Type 0 where
  pub done : OnOk result (AppliesFate slot fate before.memory after.memory)
  pub either : KeepsOrApplies slot fate before.memory after.memory
  pub meaning : (state : State) → Means before.memory state → Means after.memory state
  pub idle : fate ≡ Keep → WritesNothing result before after
  pub besides : AgreeBesides slot before.memory.bbram after.memory.bbram
  pub ran : RanInSlot 2 slot result before after
  pub plans : SamePlans room room_after

-- `wipe_region`: the inactive area of the slot is all zero
pub record WipesRegion (slot : ℕ) {A E : Type 0} (result : Result A E) (before after : Seen) : Type 0 where
  pub blank : OnOk result (IsBlank (inactive_area_of_slot after.memory.bbram slot))
  pub current : area_of_slot after.memory.bbram slot ≡ area_of_slot before.memory.bbram slot
  pub contents : KeepsContents before.memory after.memory
  pub idle : IsBlank (inactive_area_of_slot before.memory.bbram slot) → WritesNothing result before after
  pub writes : (IsBlank (inactive_area_of_slot before.memory.bbram slot) → ⊥) → MakesWrites 1 result before after
  pub besides : AgreeBesides slot before.memory.bbram after.memory.bbram
  pub ran : RanInOther 1 slot result before after
