-- Which part of the battery-backed memory each level of the ratchet reaches. Can a layer read what belongs to a layer
-- beneath it?
use Rattle.std.specs.Prelude.{◌≡◌, ℕ, ◌+◌, ◌≤◌, ◌⊎◌}
use Rattle.mb_model.specs.declared.limits.TheConstants.{AREA_LENGTH}
use Rattle.mb_model.specs.memories.Memory.{slots}

-- a level reaches the slots whose number is not below it: level 1 all three, level 2 those of both regions, and level 3
-- that of region 3
pub record ReachesSlot (level slot : ℕ) : Type 0 where
  pub least : 1 ≤ slot
  pub most : slot ≤ 3
  pub reached : level ≤ slot

-- n bytes from an offset on lie in the selector or in one area of a slot that the level reaches
pub data Reached (level at n : ℕ) : Type 0 where
  selector : (slot : ℕ) → ReachesSlot level slot → at ≡ (slots slot).selector → n ≡ 1 → Reached level at n
  in_first_area : (slot : ℕ) → ReachesSlot level slot → (slots slot).first ≤ at
      → at + n ≤ (slots slot).first + AREA_LENGTH → Reached level at n
  in_second_area : (slot : ℕ) → ReachesSlot level slot → (slots slot).second ≤ at
      → at + n ≤ (slots slot).second + AREA_LENGTH → Reached level at n

-- every level may read the life byte, too
abbrev pub Readable : ℕ → ℕ → ℕ → Type 0
Readable level at n = Reached level at n ⊎ ((at ≡ 0) × (n ≡ 1))
