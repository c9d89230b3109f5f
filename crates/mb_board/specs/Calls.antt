-- What a write call of a board leaves. What can a power loss do in the middle of a write?
use Rattle.std.specs.Prelude.{◌≡◌, ℕ, ◌+◌, ◌≤◌, nat_lt, List, length, Bool, true, false, if◌then◌else◌}
use Rattle.std.specs.Prelude.{Result, Ok, Err, OnErr, None}
use Rattle.mb_model.specs.outside.Board.{Memory, Ledger, Meter, Held, IsLoaded, phase_at, memory_with_bytes}

-- whether power is on after calls with this result: not after a stop
abbrev pub power_of : {A E : Type 0} → Result A E → Bool
power_of (Ok value) = true
power_of (Err stop) = false

-- the level after calls with this result: 0 after a stop, and else as before
abbrev pub level_of : {A E : Type 0} → Result A E → ℕ → ℕ
level_of (Ok value) level = level
level_of (Err stop) level = 0

-- one more write call; the count saturates at 1,000
abbrev pub counted_write : ℕ → ℕ
counted_write writes = if nat_lt writes 1000 then writes + 1 else writes

-- Each call is counted. A stop is counted as a stop too, and after it no power loss is armed.
abbrev pub metered : {A E : Type 0} → Result A E → Meter → Meter
metered (Ok value) meter = record meter { writes = counted_write meter.writes }
metered (Err stop) meter =
    record { armed = false; stops = meter.stops + 1; writes = counted_write meter.writes }

-- A range of a memory holds arbitrary bytes; all other bytes are as before.
pub record Torn (at n : ℕ) (before after : List ℕ) : Type 0 where
  pub written : List ℕ
  pub sized : length written ≡ n
  pub whole : after ≡ memory_with_bytes at written before

-- what a board holds, by its power and the level of its ratchet
abbrev pub held_by : Memory → Bool → ℕ → Meter → Held
held_by memory power level meter =
    record { memory = memory; phase = phase_at power level; armed = meter.armed }

-- ---- several calls

-- whether a power loss is armed after calls with this result
abbrev pub armed_by : {A E : Type 0} → Result A E → Bool → Bool
armed_by (Ok value) armed = armed
armed_by (Err stop) armed = false

-- how many calls power losses have stopped, after calls with this result
abbrev pub stops_by : {A E : Type 0} → Result A E → ℕ → ℕ
stops_by (Ok value) stops = stops
stops_by (Err stop) stops = stops + 1

-- Calls, at most n of them write calls, had this result: they were stopped only by an armed power loss, and then
-- the count of stops rose by one.
pub record IsMetered (n : ℕ) {A E : Type 0} (result : Result A E) (before after : Meter) : Type 0 where
  pub armed : after.armed ≡ armed_by result before.armed
  pub stops : after.stops ≡ stops_by result before.stops
  pub writes : after.writes ≤ before.writes + n
  pub cut : OnErr result (before.armed ≡ true)

-- ---- all that a board shows

-- All that a board shows: its power, its level, its memory, its events, and what it counts.
pub record Seen : Type 0 where
  pub power : Bool
  pub level : ℕ
  pub memory : Memory
  pub ledger : Ledger
  pub meter : Meter

-- what a board holds that shows this
abbrev pub held_in : Seen → Held
held_in seen = held_by seen.memory seen.power seen.level seen.meter

-- A board that shows this has its power on, and both memories have the lengths of a loaded board's.
pub record IsPowered (seen : Seen) : Type 0 where
  pub on : seen.power ≡ true
  pub loaded : IsLoaded seen.memory

-- A board that shows this can be used at the level: it has its power on, and its ratchet stands there.
pub record IsUp (level : ℕ) (seen : Seen) : Type 0 where
  pub on : seen.power ≡ true
  pub at_level : seen.level ≡ level
  pub loaded : IsLoaded seen.memory

-- What calls with this result leave of a board, whatever they write in at most n write calls. At a stop power is off
-- and the level 0, and else both are as before. The memories keep their lengths, and the events and answers stay.
pub record Ran (n : ℕ) {A E : Type 0} (result : Result A E) (before after : Seen) : Type 0 where
  pub power : after.power ≡ power_of result
  pub level : after.level ≡ level_of result before.level
  pub sized : IsLoaded after.memory
  pub ledger : after.ledger ≡ before.ledger
  pub meter : IsMetered n result before.meter after.meter

-- Calls with this result, none of which wrote to the battery-backed memory.
pub record RanOnFlash (n : ℕ) {A E : Type 0} (result : Result A E) (before after : Seen) : Type 0 where
  pub ran : Ran n result before after
  pub bbram : after.memory.bbram ≡ before.memory.bbram

-- Calls with this result, none of which wrote to the flash.
pub record RanOnBbram (n : ℕ) {A E : Type 0} (result : Result A E) (before after : Seen) : Type 0 where
  pub ran : Ran n result before after
  pub flash : after.memory.flash ≡ before.memory.flash

-- The events and answers stay, and calls with this result, at most n of them write calls, were counted.
pub record KeepsEvents (n : ℕ) {A E : Type 0} (result : Result A E) (before after : Seen) : Type 0 where
  pub ledger : after.ledger ≡ before.ledger
  pub meter : IsMetered n result before.meter after.meter

-- a board shows the same as before but for its power and its level
pub record IsSwitched (before after : Seen) : Type 0 where
  pub memory : after.memory ≡ before.memory
  pub ledger : after.ledger ≡ before.ledger
  pub meter : after.meter ≡ before.meter

-- No event is out, and the board holds what it held at the last answer or, if there is none, at the load. No power loss
-- has stopped a call since.
pub record IsBetweenEvents (seen : Seen) : Type 0 where
  pub none_out : seen.ledger.out ≡ None
  pub standing : seen.ledger.standing ≡ held_in seen
  pub stops : seen.ledger.stops ≡ seen.meter.stops
