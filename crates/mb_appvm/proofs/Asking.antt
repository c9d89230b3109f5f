-- How the demands of an action are taken, one after another.
use Rattle.std.proofs.Common.{◌≡◌, ℕ, zero, suc, ◌+◌, ◌-◌, ◌<◌, ◌≤◌, List, [], ◌∷◌, ◌++◌, Result, Ok, Err, refl, ap, ◌∙◌, arith}
use Rattle.mb_format.proofs.Exact.{ok_parts}
use Rattle.std.specs.Int.{w8}
use Rattle.mb_format.specs.Combinators.{number, between, counted, sized, items, times, cons}
use Rattle.mb_format.specs.Format.{Format}
use Rattle.mb_format.specs.Reading.{into_read, with_first, then_read}
use Rattle.mb_bytes.specs.declared.cursor.Cursor.{Cursor}
use Rattle.mb_bytes.specs.Reads.{ReadsOk, ReadsErr}
use Rattle.mb_bytes.proofs.Reading.{led_ok, led_err_later, IsReading, reading_begins, reading_goes_on, reading_ends, reading_fails}
use Rattle.mb_model.specs.declared.limits.TheConstants.{MESSAGE_LIMIT}
use Rattle.mb_model.specs.machine.Actions.{Demand, demand_format, action_format}
use Rattle.mb_appvm.specs.Asking.{demand_then, demands_from}

pub none_left : (left : ℕ) (bytes : List ℕ) (at : ℕ) → left ≡ 0 → demands_from left bytes at ≡ []
unfolding demands_from
none_left zero bytes at none = refl
none_left (suc left) bytes at none = absurd (omega (arith, none))

pub one_taken : (left : ℕ) (demand : Demand) (old new : Cursor) → (left ≡ 0 → ⊥) → ReadsOk demand_format old demand new
    → demands_from left old.bytes.now old.offset ≡ demand ∷ demands_from (left - 1) new.bytes.now new.offset
unfolding demands_from
one_taken zero demand old new some read = absurd (some refl)
one_taken (suc left) demand old new some read =
    let less : suc left - 1 ≡ left = omega arith in
    rw (less, read.reads, read.bytes) refl

pub none_taken : (left at : ℕ) (old new : Cursor) → ReadsErr demand_format old at new → demands_from left old.bytes.now old.offset ≡ []
unfolding demands_from
none_taken zero at old new failed = refl
none_taken (suc left) at old new failed = rw failed.reads refl

-- ---- all of them

stand_after : (count : ℕ) (bytes : List ℕ) (demand : Demand) (demands : List Demand) (middle after : ℕ) (later : Result (List Demand × ℕ) ℕ)
    → ((others : List Demand) (last : ℕ) → later ≡ Ok (others, last) → demands_from count bytes middle ≡ others)
    → into_read cons (with_first demand later) ≡ Ok (demands, after) → demand ∷ demands_from count bytes middle ≡ demands
stand_after count bytes demand demands middle after (Ok (others, last)) each whole =
    ap (λ (ds : List Demand). demand ∷ ds) (each others last refl) ∙ (ok_parts (demand ∷ others) demands last after whole).0
stand_after count bytes demand demands middle after (Err offset) each whole = absurd cc

stand_from : (count : ℕ) (bytes : List ℕ) (demands : List Demand) (after : ℕ) (first : Result (Demand × ℕ) ℕ)
    → ((middle last : ℕ) (others : List Demand) → (times count demand_format).reads bytes middle ≡ Ok (others, last) → demands_from count bytes middle ≡ others)
    → into_read cons (then_read first (λ a middle. (times count demand_format).reads bytes middle)) ≡ Ok (demands, after)
    → demand_then first (λ middle. demands_from count bytes middle) ≡ demands
stand_from count bytes demands after (Ok (demand, middle)) each whole =
    stand_after count bytes demand demands middle after ((times count demand_format).reads bytes middle) (λ others last is. each middle last others is) whole
stand_from count bytes demands after (Err offset) each whole = absurd cc

pub all_stand : (count : ℕ) (bytes : List ℕ) (at after : ℕ) (demands : List Demand) → (times count demand_format).reads bytes at ≡ Ok (demands, after)
    → demands_from count bytes at ≡ demands
unfolding items demands_from
all_stand zero bytes at after demands read = (ok_parts [] demands at after read).0
all_stand (suc count) bytes at after demands read =
    stand_from count bytes demands after (demand_format.reads bytes at) (λ middle last others is. all_stand count bytes middle last others is) read

-- this many of the demands have been read, and were these
pub record HasPassed (count done : ℕ) (old now : Cursor) : Type 0 where
  pub front : List Demand
  pub reading : IsReading (λ (u : Unit {0}). demand_format) (λ u a. u) count done tt tt front old now

pub passing_begins : (count : ℕ) (old : Cursor) → HasPassed count 0 old old
passing_begins count old = record { front = []; reading = reading_begins (λ (u : Unit {0}). demand_format) (λ u a. u) count tt old }

pub passing_goes_on : (count done : ℕ) (demand : Demand) (old now after : Cursor) → done < count → HasPassed count done old now → ReadsOk demand_format now demand after
    → HasPassed count (done + 1) old after
passing_goes_on count done demand old now after more has read = record { front = has.front ++ demand ∷ []; reading = reading_goes_on demand more has.reading read }

pub passing_fails : (count done at : ℕ) (old now after : Cursor) → done < count → HasPassed count done old now → ReadsErr demand_format now at after
    → ReadsErr (times count demand_format) old at after
passing_fails count done at old now after more has failed = reading_fails more has.reading failed

pub passing_ends : (count done : ℕ) (old now : Cursor) → count ≤ done → HasPassed count done old now
    → (demands : List Demand) × ReadsOk (times count demand_format) old demands now
passing_ends count done old now all has = (has.front, reading_ends all has.reading)

-- the demands that were passed are those that can be taken
pub demands_stand : (count : ℕ) (demands : List Demand) (old new : Cursor) → ReadsOk (times count demand_format) old demands new
    → demands_from count old.bytes.now old.offset ≡ demands
demands_stand count demands old new read = all_stand count old.bytes.now old.offset new.offset demands read.reads

-- ---- actions

abbrev answered : Format (List ℕ)
answered = sized (between w8 0 MESSAGE_LIMIT)

counted_read : (left : ℕ) (demands : List Demand) (old one two : Cursor) → ReadsOk (number w8) old left one → ReadsOk (times left demand_format) one demands two
    → ReadsOk (counted (number w8) demand_format) old demands two
counted_read left demands old one two number_read demands_read = led_ok number_read demands_read

both_read : (demands : List Demand) (answer : List ℕ) (old two three : Cursor) → ReadsOk (counted (number w8) demand_format) old demands two
    → ReadsOk answered two answer three → ReadsOk action_format old (record { demands = demands; answer = answer }) three
unfolding action_format
both_read demands answer old two three p q = record { bytes = q.bytes ∙ p.bytes; reads = rw (p.reads, ← p.bytes, q.reads) refl }

pub action_read : (left : ℕ) (demands : List Demand) (answer : List ℕ) (old one two three : Cursor) → ReadsOk (number w8) old left one
    → ReadsOk (times left demand_format) one demands two → ReadsOk answered two answer three
    → ReadsOk action_format old (record { demands = demands_from left one.bytes.now one.offset; answer = answer }) three
action_read left demands answer old one two three p q r =
    rw (demands_stand left demands one two q) (both_read demands answer old two three (counted_read left demands old one two p q) r)

demands_fail : (at : ℕ) (old new : Cursor) → ReadsErr (counted (number w8) demand_format) old at new → ReadsErr action_format old at new
unfolding action_format
demands_fail at old new failed = record { bytes = failed.bytes; reads = rw failed.reads refl }

pub number_fails : (at : ℕ) (old new : Cursor) → ReadsErr (number w8) old at new → ReadsErr action_format old at new
number_fails at old new failed = demands_fail at old new (record { bytes = failed.bytes; reads = rw failed.reads refl })

pub list_fails : (left at : ℕ) (old one two : Cursor) → ReadsOk (number w8) old left one → ReadsErr (times left demand_format) one at two → ReadsErr action_format old at two
list_fails left at old one two p failed = demands_fail at old two (led_err_later p failed)

pub answer_fails : (left at : ℕ) (demands : List Demand) (old one two three : Cursor) → ReadsOk (number w8) old left one
    → ReadsOk (times left demand_format) one demands two → ReadsErr answered two at three → ReadsErr action_format old at three
unfolding action_format
answer_fails left at demands old one two three p q failed =
    let c = counted_read left demands old one two p q in
    record { bytes = failed.bytes ∙ c.bytes; reads = rw (c.reads, ← c.bytes, failed.reads) refl }
