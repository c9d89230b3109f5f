-- What the calls of this crate promise, where that is longer than a line.
use Rattle.std.specs.Prelude.{◌≡◌, ℕ, ◌+◌, ◌≤◌, Option, Result, IfOk}
use Rattle.mb_board.specs.Calls.{Seen, held_in, KeepsEvents}
use Rattle.mb_boot.specs.Booting.{IsQuiet}
use Rattle.mb_device_orders.specs.declared.remembering.Trees.{Trees}
use Rattle.mb_lms.specs.declared.hash_count.TheConstants.{LEAF_HASHES, SIGNING_HASHES}
use Rattle.mb_model.specs.declared.event.Event.{Event}
use Rattle.mb_model.specs.declared.reply.Reply.{Reply}
use Rattle.mb_model.specs.machine.Machine.{World}
use Rattle.mb_model.specs.memories.Spared.{SparesSectors}
use Rattle.mb_model.specs.outside.Board.{Held}
use Rattle.mb_device.specs.declared.device.Device.{Device}
use Rattle.mb_device.specs.KeptTrees.{IsKeptToSign, TreesAreKept, HasTreeFor, KeepsItsTrees, KeepsTreeOnceDone}
use Rattle.mb_device.specs.KeptTrees.{MakesKeysOf, SignsByDeviceTree}
use Rattle.mb_device.specs.Sound.{IsSoundDevice, taken, Steps}
use Rattle.mb_device.specs.Stepping.{stop_told, IfNothingTold, IfBoot}

-- A device has answered an event, in at most n write calls and so many hashes. It was sound for what its board held
-- earlier, before the event was handed out.
pub record Answers
    (n limit : ℕ) (device : Device) (event : Event) (told : Device × Reply) (before after : Seen)
    (hashes hashes_after : ℕ) : Type 0 where
  pub steps : (earlier : Held) (world : World) → IsSoundDevice device earlier world
      → held_in before ≡ taken event earlier → Steps world event told.1 told.0 (held_in after)
  pub untold : IfNothingTold told.1 before.memory after.memory before.meter after.meter
  pub quiet : IfBoot event (IsQuiet before.memory after.memory before.meter after.meter)
  pub spared : SparesSectors before.memory after.memory
  pub events : KeepsEvents n (stop_told told.1) before after
  pub trees : KeepsItsTrees device event told.1 told.0
  pub done : KeepsTreeOnceDone event told.1 told.0
  pub order : (earlier : Held) (world : World) (keys : ℕ) → IsSoundDevice device earlier world
      → held_in before ≡ taken event earlier → MakesKeysOf world event keys
      → SignsByDeviceTree device keys hashes hashes_after
  pub cost : hashes_after ≤ hashes + limit
  pub again : HasTreeFor device event → hashes_after ≤ hashes + LEAF_HASHES

-- What becomes of the trees where layer L uses its region, and what that costs.
pub record SignsIn
    (L : ℕ) (event : Event) (kept kept_after : Option Trees) {S E : Type 0} (result : Result (S × Reply) E)
    (hashes hashes_after : ℕ) : Type 0 where
  pub trees : IfOk result (λ told. TreesAreKept L event told.1 kept kept_after)
  pub cost : hashes_after ≤ hashes + SIGNING_HASHES
  pub again : IsKeptToSign kept L event → hashes_after ≤ hashes + LEAF_HASHES
