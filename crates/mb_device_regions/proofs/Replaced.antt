-- A region that was put in its slot is that of the state.
use Rattle.std.proofs.Common.{◌≡◌, ℕ, refl}
use Rattle.std.specs.Prelude.{Result}
use Rattle.mb_board.specs.Calls.{Seen}
use Rattle.mb_format.specs.Format.{IsBytes}
use Rattle.mb_layout.specs.declared.room.Room.{Room}
use Rattle.mb_model.specs.declared.region.Region.{Region}
use Rattle.mb_model.specs.outside.Board.{IsLoaded}
use Rattle.mb_model.specs.owners.Regions.{region_of}
use Rattle.mb_outbound.specs.Calls.{PutsInSlot}
use Rattle.mb_region.specs.Regions.{IsRegionSlot}
use Rattle.mb_device_regions.specs.Calls.{Replaces}
use Rattle.mb_device_regions.proofs.Readied.{region_held, replaced_ready, replaced_or_not}

pub replaces : {A E : Type 0} (result : Result A E) (L : ℕ) (region : Region) (room room_after : Room) (before after : Seen) → IsRegionSlot L → IsBytes before.memory.bbram → IsLoaded before.memory
    → PutsInSlot L (λ given. given ≡ region) room room_after result before after → Replaces L region room room_after result before after
replaces result L region room room_after before after which are loaded puts = record {
  done = λ state ready valid.
      replaced_ready result L region before.memory after.memory state which are loaded ready puts.ran.ran.sized (puts.done region refl) puts.blank puts.ran.rest valid;
  either = λ state ready. replaced_or_not L region before.memory after.memory state which are ready puts.ran.ran.sized (puts.either region refl);
  writes = λ state ready. puts.writes (region_of state L) (region_held L before.memory state which ready);
  ran = record { ran = puts.ran.ran; flash = puts.ran.flash };
  plans = puts.plans;
}
