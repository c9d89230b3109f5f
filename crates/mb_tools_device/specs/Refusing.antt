-- Which event keeps the last one of a script from being cut. Is it the first that does?
use Rattle.std.specs.Prelude.{◌≡◌, ℕ, List, [], ◌∷◌, ◌++◌, length}
use Rattle.mb_model.specs.declared.event.Event.{Event}
use Rattle.mb_tools_device.specs.CutCommand.{CanComeFirst}

-- The events before the one with this index, from 0, can come first in a script whose last event can be cut, and those
-- up to it cannot. Or there is no event, and the first is missing.
pub data IsFirstRefused (events : List Event) (index : ℕ) : Type 0 where
  is_missing : events ≡ [] → index ≡ 0 → IsFirstRefused events index
  is_wrong : (before : List Event) (this : Event) (later : List Event) → events ≡ before ++ this ∷ later
      → index ≡ length before → CanComeFirst before → (CanComeFirst (before ++ this ∷ []) → ⊥)
      → IsFirstRefused events index
