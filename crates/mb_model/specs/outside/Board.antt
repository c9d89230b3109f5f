-- What a board is for those who use it: its memory, its power, the events that it hands out and takes back answered,
-- and what it counts.
use Rattle.std.specs.Prelude.{ℕ, zero, suc, ◌+◌, List, [], ◌++◌, length, take, drop, replicate, Bool, true, false}
use Rattle.std.specs.Prelude.{Option, None, Some, nat_lt, if◌then◌else◌}
use Rattle.mb_format.specs.Format.{IsBytes}
use Rattle.mb_model.specs.declared.event.Event.{Event}
use Rattle.mb_model.specs.declared.event.Event.TheVariants as event
use Rattle.mb_model.specs.declared.event.Answered.{Answered}
use Rattle.mb_model.specs.declared.reply.Reply.{Reply}
use Rattle.mb_model.specs.declared.reply.Reply.TheVariants as reply
use Rattle.mb_model.specs.memories.Memory.{AreSized}
use Rattle.mb_model.specs.machine.Machine.{Phase, off, dead, ratchet}

-- flash and battery-backed memory; an image is the first followed by the second
pub record Memory : Type 0 where
  pub flash : List ℕ
  pub bbram : List ℕ

abbrev pub image_of : Memory → List ℕ
image_of memory = memory.flash ++ memory.bbram

-- both memories have the lengths that they have on a loaded board
abbrev pub IsLoaded : Memory → Type 0
IsLoaded memory = AreSized memory.flash memory.bbram

-- both memories hold bytes
pub record AreBytes (memory : Memory) : Type 0 where
  pub flash : IsBytes memory.flash
  pub bbram : IsBytes memory.bbram

-- the memory with these bytes put at offset `at`
unfoldable pub memory_with_bytes : ℕ → List ℕ → List ℕ → List ℕ
memory_with_bytes at bytes memory = take at memory ++ bytes ++ drop (at + length bytes) memory

-- `count` bytes of erased flash
unfoldable pub erased_bytes : ℕ → List ℕ
erased_bytes count = replicate count 0xFF

-- ---- what a board holds

-- the phase by a board's power and by the level of its ratchet, which is 0 until the device is found alive
abbrev pub phase_at : Bool → ℕ → Phase
phase_at false level = off
phase_at true zero = dead
phase_at true (suc below) = ratchet (suc below)

-- What a board holds: its memory, its phase, and whether a power loss is armed. With the memory alone no clause could
-- say that a run leads to what the board shows; and what the board holds at its end a body could change after the last
-- answer.
pub record Held : Type 0 where
  pub memory : Memory
  pub phase : Phase
  pub armed : Bool

-- The events that wait, the one that is out, and those answered. What the board held at the last answer, and how many
-- calls power losses had stopped by then; or both at the load, if nothing has been answered since. The memory that was
-- loaded last, and how many loads there were, counted up to 1,000. The memory that was loaded stands here, so that a
-- clause can say which image was served: not in the meter, which each composition of calls describes part by part, and
-- not in a ghost field, which holds no data.
pub record Ledger : Type 0 where
  pub waiting : List Event
  pub out : Option Event
  pub answered : List Answered
  pub standing : Held
  pub stops : ℕ
  pub loaded : Memory
  pub loads : ℕ

-- whether a power loss is armed; how many calls power losses have stopped; how many write calls were made since the
-- last event was taken, counted up to 1,000
pub record Meter : Type 0 where
  pub armed : Bool
  pub stops : ℕ
  pub writes : ℕ

-- what a board holds when this memory has just been loaded
abbrev pub held_at_load : Memory → Held
held_at_load memory = record { memory = memory; phase = off; armed = false }

-- one more load; the count saturates at 1,000
abbrev pub counted_load : ℕ → ℕ
counted_load loads = if nat_lt loads 1000 then loads + 1 else loads

-- The ledger of a board when this memory has just been loaded, by a load of this number, with these events waiting.
-- Power losses have stopped so many calls by then.
abbrev pub ledger_at_load : ℕ → ℕ → Memory → List Event → Ledger
ledger_at_load loads stops memory events = record {
  waiting = events;
  out = None;
  answered = [];
  standing = held_at_load memory;
  stops = stops;
  loaded = memory;
  loads = loads;
}

-- ---- an answer and what was counted

-- how many calls power losses have stopped by an answer: one more if the answer is `stopped`, and else as many as by
-- the answer before
abbrev pub stops_by_answer : Reply → ℕ → ℕ
stops_by_answer reply.Stopped stops = stops + 1
stops_by_answer other stops = stops

-- ---- how a board was used

-- How a board was used: how many times it was loaded, the image of the last load, and the events answered since.
pub record Used : Type 0 where
  pub loads : ℕ
  pub image : List ℕ
  pub answered : List Answered

-- a board that was never loaded
abbrev pub not_used : Used
not_used = record { loads = 0; image = []; answered = [] }

-- how a board with this ledger was used
abbrev pub use_of : Ledger → Used
use_of ledger =
    record { loads = ledger.loads; image = image_of ledger.loaded; answered = ledger.answered }

-- one more load, of this image
abbrev pub loaded_once_more : List ℕ → Used → Used
loaded_once_more image used = record { loads = counted_load used.loads; image = image; answered = [] }

-- these events have been answered since the last load
abbrev pub having_answered : List Answered → Used → Used
having_answered answered used = record used { answered = answered }

-- ---- what handing out an event does

-- whether power is on after an event is handed out: off and tamper turn it off
abbrev pub power_after : Option Event → Bool → Bool
power_after (Some event.Off) power = false
power_after (Some event.Tamper) power = false
power_after _ power = power

-- `count` zero bytes
unfoldable pub zeros : ℕ → List ℕ
zeros count = replicate count 0

-- the memory after an event is handed out: tamper zeroes the battery-backed memory
abbrev pub memory_after : Option Event → Memory → Memory
memory_after (Some event.Tamper) memory = record memory { bbram = zeros (length memory.bbram) }
memory_after _ memory = memory

-- whether a power loss is armed after an event is handed out: a cut arms one
abbrev pub armed_after : Option Event → Bool → Bool
armed_after (Some (event.Cut count tear)) armed = true
armed_after _ armed = armed
