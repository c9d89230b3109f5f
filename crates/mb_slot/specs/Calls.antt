-- What the calls of this crate promise, where that is longer than a line.
use Rattle.std.specs.Prelude.{◌≡◌, ◌≢◌, ℕ, ◌≤◌, ◌⊎◌, List, Result, OnOk}
use Rattle.mb_model.specs.memories.Memory.{IsBlank, area_of_slot, inactive_area_of_slot}
use Rattle.mb_model_memory.specs.InForce.{AgreeBesides}
use Rattle.mb_board.specs.Calls.{Seen}
use Rattle.mb_slot.specs.Slots.{MakesWrites, WritesNothing, RanInOther, RanInSlot}

-- `commit`: these bytes are the current area of the slot, and the area before is the inactive one
pub record CommitsArea (slot : ℕ) (area : List ℕ) {A E : Type 0} (result : Result A E) (before after : Seen)
    : Type 0 where
  pub done : OnOk result (area_of_slot after.memory.bbram slot ≡ area)
  pub left : OnOk result (inactive_area_of_slot after.memory.bbram slot ≡ area_of_slot before.memory.bbram slot)
  pub either : (area_of_slot after.memory.bbram slot ≡ area_of_slot before.memory.bbram slot)
      ⊎ (area_of_slot after.memory.bbram slot ≡ area)
  pub besides : AgreeBesides slot before.memory.bbram after.memory.bbram
  pub writes : MakesWrites 2 result before after
  pub ran : RanInSlot 2 slot result before after

-- `wipe_other`: the inactive area of the slot is all zero
pub record WipesOther (slot : ℕ) {A E : Type 0} (result : Result A E) (before after : Seen) : Type 0 where
  pub blank : OnOk result (IsBlank (inactive_area_of_slot after.memory.bbram slot))
  pub current : area_of_slot after.memory.bbram slot ≡ area_of_slot before.memory.bbram slot
  pub idle : IsBlank (inactive_area_of_slot before.memory.bbram slot) → WritesNothing result before after
  pub writes : (IsBlank (inactive_area_of_slot before.memory.bbram slot) → ⊥) → MakesWrites 1 result before after
  pub others : (m : ℕ) → 1 ≤ m → m ≤ 3 → m ≢ slot
      → inactive_area_of_slot after.memory.bbram m ≡ inactive_area_of_slot before.memory.bbram m
  pub besides : AgreeBesides slot before.memory.bbram after.memory.bbram
  pub ran : RanInOther 1 slot result before after
