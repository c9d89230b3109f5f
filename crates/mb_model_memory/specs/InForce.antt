-- Which bytes of two memories count. What may be written elsewhere without changing the state?
use Rattle.std.specs.Prelude.{◌≡◌, ◌≢◌, ℕ, ◌≤◌, List}
use Rattle.mb_model.specs.declared.stored.Root.{Root}
use Rattle.mb_model.specs.memories.Memory.{life_byte, spare_bytes, area_of_slot}
use Rattle.mb_model.specs.memories.Meaning.{RootIn}
use Rattle.mb_model_memory.specs.FlashInForce.{AgreeForArea}

-- Two memories have the same bytes wherever these are in force: the life byte, the bytes between the selectors and the
-- areas, the current area of each slot, and the area of the flash that the root names.
pub record AgreeInForce (flash bbram other_flash other_bbram : List ℕ) : Type 0 where
  pub life : life_byte other_bbram ≡ life_byte bbram
  pub between : spare_bytes other_bbram ≡ spare_bytes bbram
  pub root : area_of_slot other_bbram 1 ≡ area_of_slot bbram 1
  pub two : area_of_slot other_bbram 2 ≡ area_of_slot bbram 2
  pub three : area_of_slot other_bbram 3 ≡ area_of_slot bbram 3
  pub public : (root : Root) → RootIn bbram root → AgreeForArea flash other_flash root.area

-- two battery-backed memories have the same bytes in force, but for those of one slot
pub record AgreeBesides (slot : ℕ) (bbram other_bbram : List ℕ) : Type 0 where
  pub life : life_byte other_bbram ≡ life_byte bbram
  pub between : spare_bytes other_bbram ≡ spare_bytes bbram
  pub others : (m : ℕ) → 1 ≤ m → m ≤ 3 → m ≢ slot → area_of_slot other_bbram m ≡ area_of_slot bbram m
