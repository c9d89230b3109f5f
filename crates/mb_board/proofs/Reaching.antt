-- What a level of the ratchet reaches lies in one sector.
use Rattle.std.proofs.Common.{◌≡◌, ℕ, ◌+◌, ◌%◌, ◌<◌, ◌≤◌, ◌⊎◌, inl, inr, arith}
use Rattle.mb_model.specs.memories.Memory.{SlotOffsets, slots}
use Rattle.mb_board.specs.Reach.{ReachesSlot, Reached, selector, in_first_area, in_second_area}

-- the three slots
three : (level slot : ℕ) → ReachesSlot level slot → ((slot ≡ 1) ⊎ (slot ≡ 2)) ⊎ (slot ≡ 3)
three level slot reaches = grind arith

-- where a slot stands
record InSectors (slot : SlotOffsets) : Type 0 where
  selector : slot.selector < 4
  first : slot.first % 4096 ≡ 0
  second : slot.second % 4096 ≡ 0

in_sectors : (level slot : ℕ) → ReachesSlot level slot → InSectors (slots slot)
in_sectors level slot reaches =
    elim (three level slot reaches) [
      | inl lower ↦ elim lower [
        | inl is ↦ rw is record { selector = omega arith; first = omega arith; second = omega arith }
        | inr is ↦ rw is record { selector = omega arith; first = omega arith; second = omega arith }
      ]
      | inr is ↦ rw is record { selector = omega arith; first = omega arith; second = omega arith }
    ]

pub within_sector : (level at n : ℕ) → Reached level at n → at % 4096 + n ≤ 4096
within_sector level at n (selector slot reaches is one) =
    let stands : InSectors (slots slot) = in_sectors level slot reaches in
    omega arith
within_sector level at n (in_first_area slot reaches least most) =
    let stands : InSectors (slots slot) = in_sectors level slot reaches in
    omega arith
within_sector level at n (in_second_area slot reaches least most) =
    let stands : InSectors (slots slot) = in_sectors level slot reaches in
    omega arith
