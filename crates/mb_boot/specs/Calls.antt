-- What the calls of this crate promise, where that is longer than a line.
use Rattle.std.specs.Prelude.{◌≡◌, ℕ, ◌+◌, ◌*◌, ◌≤◌, ◌⊎◌, List, true, Option, Result, OnOk}
use Rattle.std.specs.Option.{is_none}
use Rattle.mb_model.specs.declared.key.KeySeed.{KeySeed}
use Rattle.mb_model.specs.declared.state.State.{State}
use Rattle.mb_model.specs.declared.stored.Root.{Root}
use Rattle.mb_model.specs.outside.Board.{Memory}
use Rattle.mb_model.specs.memories.Meaning.{StandsFor}
use Rattle.mb_model.specs.memories.Spared.{SparesSectors}
use Rattle.mb_board.specs.Calls.{Seen, Ran, RanOnFlash, KeepsEvents, IsSwitched}
use Rattle.mb_lms.specs.declared.hash_count.TheConstants.{LEAF_HASHES, SIGNING_HASHES}
use Rattle.mb_model_memory.specs.FlashInForce.{AgreeForArea}
use Rattle.mb_model_memory.specs.Holding.{KeepsContents, KeepsMeaning}
use Rattle.mb_signer.specs.declared.bench.Bench.{Bench}
use Rattle.mb_signer.specs.Benches.{HasTree, HasRoom, KeepsTrees}
use Rattle.mb_boot.specs.Booting.{Cleans, IsQuiet, KeepsState, IfUnwritten, HasLevel, stop_of, power_at, is_zeroised}
use Rattle.mb_boot.specs.Signers.{HasSigners, HoldsDeviceTree, DeviceKeySigns}
use Rattle.mb_boot.specs.declared.device.BootEnd.{BootEnd}

-- ---- signing

-- The key signed at most once. Its tree is built only if it is not on the bench, and pushes no other tree off a bench
-- that has it, or room for it.
pub record SignsOnce (key : KeySeed) (bench bench_after : Bench) (hashes hashes_after : ℕ) : Type 0 where
  pub beside : HasRoom bench ⊎ HasTree bench key → KeepsTrees bench bench_after
  pub cost : hashes_after ≤ hashes + SIGNING_HASHES
  pub again : HasTree bench key → hashes_after ≤ hashes + LEAF_HASHES

-- The unsigned entries for this root were signed. On Ok the tree of the device key is on the bench if that key signs,
-- or if its tree was there and could stay. No tree is built if those of the keys that sign were there.
pub record UsesTrees (flash : List ℕ) (root : Root) {A E : Type 0} (result : Result A E)
    (bench bench_after : Bench) (hashes hashes_after : ℕ) : Type 0 where
  pub kept : DeviceKeySigns flash root → OnOk result (HasTree bench_after root.device)
  pub held : HoldsDeviceTree bench root → OnOk result (HasTree bench_after root.device)
  pub again : HasSigners bench root → hashes_after ≤ hashes + 2 * LEAF_HASHES

-- ---- the work of an order

-- What was written to the flash, in at most n write calls, leaves the contents of the memory and what this header area
-- counts; on Ok `Done` holds of the memory before and after.
pub record WritesBeside (Done : Memory → Memory → Type 0) (area n : ℕ)
    {A E : Type 0} (result : Result A E) (before after : Seen) : Type 0 where
  pub done : OnOk result (Done before.memory after.memory)
  pub contents : KeepsContents before.memory after.memory
  pub agree : AgreeForArea before.memory.flash after.memory.flash area
  pub ran : RanOnFlash n result before after

-- Work was done, in at most n write calls: on Ok `Done` holds of the memory before and after, and wherever power fails,
-- the memory means what it meant. The sectors of the log that the header before counts keep their bytes, and so do
-- those that hold nothing.
pub record DoesWork (Done : Memory → Memory → Type 0) (n : ℕ)
    {A E : Type 0} (result : Result A E) (before after : Seen) (hashes hashes_after : ℕ) : Type 0 where
  pub done : OnOk result (Done before.memory after.memory)
  pub meaning : KeepsMeaning before.memory after.memory
  pub spared : SparesSectors before.memory after.memory
  pub ran : Ran n result before after
  pub cost : hashes_after ≤ hashes + 2 * SIGNING_HASHES

-- ---- a boot

-- power is on with the ratchet at this level, and all else that the board shows is as before
pub record ReachesLevel (reached : ℕ) (before after : Seen) : Type 0 where
  pub power : after.power ≡ true
  pub level : after.level ≡ reached
  pub switched : IsSwitched before after

-- How a boot ends. On Ok the memory is clean for the state that it meant, and wherever power fails, it means what it
-- meant, a state or a dead device. Nothing is written to a clean memory, to that of a dead device, or if an allocation
-- fails. It has `power`, `level` and `events` in place of `Ran`, since it ends at three levels, and since power did not
-- fail at two of its errors.
pub record Boots {A : Type 0} (result : Result A BootEnd) (before after : Seen) (hashes hashes_after : ℕ)
    : Type 0 where
  pub clean : OnOk result (Cleans before.memory after.memory)
  pub meaning : KeepsState before.memory after.memory
  pub spared : SparesSectors before.memory after.memory
  pub zeroised : (state : Option State) → StandsFor before.memory.flash before.memory.bbram state
      → is_zeroised result ≡ is_none state
  pub quiet : IsQuiet before.memory after.memory before.meter after.meter
  pub unwritten : IfUnwritten result (after.memory ≡ before.memory) (after.meter ≡ before.meter)
  pub power : after.power ≡ power_at result
  pub level : HasLevel result after.level
  pub events : KeepsEvents 15 (stop_of result) before after
  pub cost : hashes_after ≤ hashes + 2 * SIGNING_HASHES
