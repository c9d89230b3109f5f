-- Memories, images and answers for which the definitions do not hold; the checker refutes each line. Is any definition
-- true of everything?
use Rattle.std.specs.Prelude.{◌≡◌, ◌≢◌, ℕ, List, [], ◌∷◌, length, slice_index, Option, None, Some, false}
use Rattle.mb_model.specs.declared.event.Answered.{Answered}
use Rattle.mb_model.specs.declared.event.Event.{Event}
use Rattle.mb_model.specs.declared.event.Event.TheVariants as event
use Rattle.mb_model.specs.declared.region.Region.{Region}
use Rattle.mb_model.specs.declared.reply.Reply.TheVariants as reply
use Rattle.mb_model.specs.declared.state.State.{State}
use Rattle.mb_model.specs.declared.stored.Root.{Root}
use Rattle.mb_model.specs.records.RootFormat.{root_format}
use Rattle.mb_model.specs.records.RegionFormat.{SpellsRegion}
use Rattle.mb_model.specs.memories.Memory.{IsBlank, life_byte, inactive_area_of_slot, HoldsInArea, HoldsRecord}
use Rattle.mb_model.specs.machine.Machine.{World, off, dead, ratchet}
use Rattle.mb_model.specs.outside.Board.{Held}
use Rattle.mb_model.specs.memories.Meaning.{HasMeaning, StandsFor, IsWellFormed}
use Rattle.mb_model.specs.memories.Faults.{Fault, bad_length, HasFault}
use Rattle.mb_model.specs.memories.Clean.{Clean}
use Rattle.mb_model.specs.memories.Flash.{sector}
use Rattle.mb_model.specs.memories.Acknowledged.{Shows, HoldsNoOther, HasToBeClean, AreWiping, MayAnswer}
use Rattle.mb_model_commands.specs.GenerateCommand.{ShowsLog}

-- ---- what a memory holds

-- an area of five bytes, which begins with the length 1
abbrev pub five_bytes : ℕ → List ℕ
five_bytes last = 0 ∷ 1 ∷ 7 ∷ 0 ∷ last ∷ []

-- what an area does not hold
pub record AreaCounterExamples : Type 0 where
  -- a byte that is not zero stands after the byte 7
  pub unclean : HoldsInArea (five_bytes 5) (7 ∷ []) → ⊥
  -- the length is 0, or 2
  pub shorter : HoldsInArea (five_bytes 0) [] → ⊥
  pub longer : HoldsInArea (five_bytes 0) (7 ∷ 0 ∷ []) → ⊥
  -- the byte is another
  pub other_byte : HoldsInArea (five_bytes 0) (8 ∷ []) → ⊥
  -- an area of zeros holds no root
  pub no_root : (root : Root) → HoldsRecord root_format (0 ∷ 0 ∷ 0 ∷ []) root → ⊥
  -- a region with neither secret nor key has no record
  pub no_region : (region : Region) → SpellsRegion (1 ∷ 0 ∷ 0 ∷ []) region → ⊥

-- states that a memory does not mean
pub record MeaningCounterExamples (flash bbram : List ℕ) : Type 0 where
  -- a memory that is neither all zero nor alive, as its life byte is torn, means none
  pub torn : life_byte bbram ≡ 0xA4 → (state : Option State) → HasMeaning flash bbram state → ⊥
  -- a memory that is all zero means no live state, and one that is alive for no dead one
  pub blank : IsBlank bbram → (state : State) → StandsFor flash bbram (Some state) → ⊥
  pub alive : life_byte bbram ≡ 0xA5 → StandsFor flash bbram None → ⊥
  -- a memory with a byte less means none
  pub short : length bbram ≡ 28671 → (state : Option State) → StandsFor flash bbram state → ⊥

-- an image is not well formed, or does not have a fault
pub record ImageCounterExamples (image : List ℕ) : Type 0 where
  -- an image with a byte more is not well formed, and has no fault but its length
  pub long : length image ≡ 1077249 → (state : Option State) → IsWellFormed image state → ⊥
  pub long_alone : length image ≡ 1077249 → (fault : Fault) → fault ≢ bad_length → HasFault image fault → ⊥
  -- an image of the right length does not have the fault of a wrong one
  pub right : length image ≡ 1077248 → HasFault image bad_length → ⊥

-- in the inactive area of region 2 the byte 7 is left at an offset
abbrev pub IsLeftOver : List ℕ → ℕ → Type 0
IsLeftOver bbram offset = slice_index (inactive_area_of_slot bbram 2) offset ≡ 7

-- a memory is not clean
pub record CleanCounterExamples (bbram : List ℕ) : Type 0 where
  -- the memory of a dead device has no life byte
  pub alive : life_byte bbram ≡ 0xA5 → Clean bbram None → ⊥
  -- one byte of an old region is left
  pub left : (offset : ℕ) → IsLeftOver bbram offset → (state : State) → Clean bbram (Some state) → ⊥

-- ---- what is acknowledged

-- the device booted, and a put was stopped
abbrev pub booted_and_stopped : List Answered
booted_and_stopped =
    record { event = event.Boot; reply = reply.Booted }
    ∷ record { event = event.Put 2 [] []; reply = reply.Stopped }
    ∷ []

-- the boot was stopped
abbrev pub stopped_in_boot : List Answered
stopped_in_boot = record { event = event.Boot; reply = reply.Stopped } ∷ []

-- answers after which the memory does not have to be clean while power is off
pub record WipingCounterExamples : Type 0 where
  pub nothing : AreWiping [] → ⊥
  pub stopped_later : AreWiping booted_and_stopped → ⊥
  pub stopped : AreWiping stopped_in_boot → ⊥

-- what a board does not show, and answers that it may not give
pub record AnswerCounterExamples (standing now : Held) : Type 0 where
  -- the phase is another
  pub phase : (world : World) → now.phase ≡ off → world.phase ≡ dead → Shows now world → ⊥
  -- an old region is left in a device that is alive
  pub left : (offset : ℕ) → life_byte now.memory.bbram ≡ 0xA5 → IsLeftOver now.memory.bbram offset
      → HoldsNoOther now → ⊥
  -- the log of a dead device has entries
  pub dead_log : IsBlank now.memory.bbram → ShowsLog now 5 → ⊥
  -- after a stop the memory does not have to be clean, unless the event is a tamper
  pub stop : (given : Event) → now.phase ≡ off → given ≢ event.Tamper
      → HasToBeClean standing now given reply.Stopped → ⊥
  -- `off` is answered, and layer 1 still runs
  pub still_on : now.phase ≡ ratchet 1 → MayAnswer standing now event.Off reply.Off → ⊥
  -- `off` is answered, and the memory is another
  pub changed : now.memory ≢ standing.memory → MayAnswer standing now event.Off reply.Off → ⊥
  -- `boot` is answered, and a sector that holds nothing has changed
  pub unspared : sector now.memory.flash 50 ≢ sector standing.memory.flash 50
      → MayAnswer standing now event.Boot reply.Booted → ⊥
  -- a device with a clean memory boots, and the memory is another
  pub rewritten : (state : State) → Clean standing.memory.bbram (Some state) → now.memory ≢ standing.memory
      → MayAnswer standing now event.Boot reply.Booted → ⊥
  -- an event stops, and no power loss was armed
  pub unarmed : standing.armed ≡ false → (given : Event) → MayAnswer standing now given reply.Stopped → ⊥
  -- `boot` is answered, and a byte of an old region is left
  pub unclean : (offset : ℕ) → now.phase ≡ ratchet 1 → IsLeftOver now.memory.bbram offset
      → life_byte now.memory.bbram ≡ 0xA5 → MayAnswer standing now event.Boot reply.Booted → ⊥
