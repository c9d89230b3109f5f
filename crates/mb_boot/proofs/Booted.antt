-- How the steps of a boot join.
use Rattle.std.proofs.Common.{◌≡◌, ℕ, ◌==◌, Bool, false, List, [], ◌∷◌, length, Option, None, Some, Result, Ok, Err, refl, sym, ap, subst, ◌∙◌, arith}
use Rattle.std.specs.Option.{is_none}
use Rattle.mb_ratchet.specs.declared.state.Up.{Up}
use Rattle.mb_ratchet.specs.declared.state.R1.{R1}
use Rattle.mb_model.specs.declared.state.State.{State}
use Rattle.mb_model.specs.declared.stored.Root.{Root}
use Rattle.mb_model.specs.outside.Board.{Memory, Meter, IsLoaded}
use Rattle.mb_model.specs.memories.Memory.{IsBlank, life_byte, inactive_area_of_slot}
use Rattle.mb_model.specs.memories.Meaning.{RootIn, Contents, state_of_contents, HasMeaning, is_dead, is_live}
use Rattle.mb_model.specs.memories.Meaning.{StandsFor}
use Rattle.mb_model.specs.memories.Clean.{root_of}
use Rattle.mb_model.specs.memories.Valid.{Valid}
use Rattle.mb_model_memory.specs.Commits.{at_rest}
use Rattle.mb_model_memory.specs.Holding.{Holds, Means, KeepsContents, KeepsMeaning}
use Rattle.mb_model_memory.proofs.CommitLemmas.{live_contents}
use Rattle.mb_model_memory.proofs.RestLemmas.{nothing_pending}
use Rattle.mb_slot.specs.Slots.{IsSameButOther}
use Rattle.mb_slot.proofs.Slotted.{but_other, other_other}
use Rattle.mb_area.specs.declared.first_look.Looked.TheVariants as looked
use Rattle.mb_area.specs.declared.state.Unsettled.{Unsettled}
use Rattle.mb_area.specs.declared.state.Unwiped.{Unwiped}
use Rattle.mb_area.specs.Calls.{WipesRoot}
use Rattle.mb_board.specs.Calls.{Seen, IsMetered, IsSwitched, KeepsEvents}
use Rattle.mb_model.specs.memories.Spared.{SparesSectors}
use Rattle.mb_ratchet.specs.declared.state.Off.{Off}
use Rattle.mb_boot.specs.declared.device.BootEnd.TheVariants as end
use Rattle.mb_boot.specs.Calls.{Boots, DoesWork, ReachesLevel}
use Rattle.mb_boot.specs.Settling.{IsLive, IsLiveBoard, IsLiveWith, IsAtRest, Settles}
use Rattle.mb_boot.specs.Booting.{StandsForValid, KeepsState, IsFoundAs, Rests, IsWiped, Cleans, IsQuiet}
use Rattle.mb_boot.proofs.Joined.{ok_most, err_most, ran_not}
use Rattle.mb_boot.proofs.Settled.{some_root, spared_same}
use Rattle.mb_model_memory.proofs.HoldingLemmas.{contents_keep}

-- ---- what is found

-- the root record that was found with pending work is the current one
pub found_live : (unsettled : Unsettled) (seen : Seen) → IsLiveBoard seen → IsFoundAs (looked.Unsettled unsettled) seen.memory.bbram → IsLiveWith seen unsettled.root
found_live unsettled seen live is =
    let some = some_root seen.memory live.live in
    record {
      up = live.up;
      live = live.live;
      root = record {
        holds = subst (λ (r : Root). RootIn seen.memory.bbram r) (is.found some.root some.holds).0 some.holds;
        only = λ any has. (is.found any has).0;
      };
    }

-- with nothing pending, a memory is at rest
at_rest_by : (memory : Memory) (state : State) → Means memory state → ((root : Root) → RootIn memory.bbram root → root.pending ≡ None) → IsAtRest memory state
at_rest_by memory state means none =
    let live = live_contents memory.flash memory.bbram state means in
    let contents : Contents = live.contents in
    let same : contents ≡ at_rest (state_of_contents contents) contents.root.area = nothing_pending contents (none contents.root live.holds.root) live.holds.public.counted in
    record {
      area = contents.root.area;
      holds = subst (λ (s : State). Holds memory (at_rest s contents.root.area)) (sym live.means) (subst (Holds memory) same live.holds);
    }

already_rests : (up : Up R1) (memory : Memory) → IsLive memory → IsFoundAs (looked.Settled up) memory.bbram → Rests memory memory
already_rests up memory live is =
    let some = some_root memory live in
    record { rests = λ state means. at_rest_by memory state means (λ root has. (is.found root has).0); blank = (is.found some.root some.holds).1 }

-- what is at rest stays so
rest_kept : (before after : Memory) (state : State) → KeepsContents before after → IsAtRest before state → IsAtRest after state
rest_kept before after state kept rest = record { area = rest.area; holds = kept.kept (at_rest state rest.area) rest.holds }

wiped_rests : (unwiped : Unwiped) (before after : Memory) → IsFoundAs (looked.Unwiped unwiped) before.bbram → KeepsContents before after → IsBlank (inactive_area_of_slot after.bbram 1) → Rests before after
wiped_rests unwiped before after is kept blank = record {
  rests = λ state means. rest_kept before after state kept (at_rest_by before state means (λ root has. (is.found root has).0));
  blank = blank;
}

pub settled_rests : (first between after : Memory) → Settles first between → KeepsContents between after → IsBlank (inactive_area_of_slot after.bbram 1) → Rests first after
settled_rests first between after settles kept blank = record { rests = λ state means. rest_kept between after state kept (settles.settled state means); blank = blank }

-- ---- nothing is written to a clean memory

pub already_quiet : (memory : Memory) (counted : Meter) → IsQuiet memory memory counted counted
already_quiet memory counted = record { quiet = λ state clean. (refl, refl) }

pub unwiped_quiet : (unwiped : Unwiped) (before after : Memory) (counted later : Meter) → IsFoundAs (looked.Unwiped unwiped) before.bbram → IsQuiet before after counted later
unwiped_quiet unwiped before after counted later is = record { quiet = λ state clean. absurd ((is.found (root_of state clean.area) clean.root).1 clean.other_root) }

pub unsettled_quiet : (unsettled : Unsettled) (before after : Memory) (counted later : Meter) → IsFoundAs (looked.Unsettled unsettled) before.bbram → IsQuiet before after counted later
unsettled_quiet unsettled before after counted later is = record { quiet = λ state clean. absurd ((is.found (root_of state clean.area) clean.root).1 refl) }

pub quiet_then : (before between after : Memory) (counted later last : Meter) → IsQuiet before between counted later → (IsWiped between.bbram → (after ≡ between) × (last ≡ later)) → IsQuiet before after counted last
quiet_then before between after counted later last first idle = record {
  quiet = λ state clean. (
      let one = first.quiet state clean in
      let wiped : IsWiped between.bbram = subst (λ (m : Memory). IsWiped m.bbram) (sym one.0) (record { two = clean.other_two; three = clean.other_three }) in
      let two = idle wiped in
      (two.0 ∙ one.0, two.1 ∙ one.1));
}

pub quiet_over : (first before after : Seen) → before ≡ first → IsQuiet before.memory after.memory before.meter after.meter → IsQuiet first.memory after.memory first.meter after.meter
quiet_over first before after same quiet = subst (λ (seen : Seen). IsQuiet seen.memory after.memory seen.meter after.meter) same quiet

-- ---- what is done where no work is pending

pub already_works : {E : Type 0} (up : Up R1) (seen : Seen) (hashes : ℕ) → IsLiveBoard seen → IsFoundAs (looked.Settled up) seen.memory.bbram → DoesWork Rests 13 {E = E} (Ok up) seen seen hashes hashes
already_works up seen hashes live is = record {
  done = already_rests up seen.memory live.live is;
  meaning = record { kept = λ state means. means };
  spared = spared_same seen.memory seen.memory refl;
  ran = ran_not 13 up seen live.up;
  cost = omega arith;
}

pub unwiped_works : {E : Type 0} (unwiped : Unwiped) (result : Result (Up R1) E) (before after : Seen) (hashes : ℕ) → IsFoundAs (looked.Unwiped unwiped) before.memory.bbram → WipesRoot result before after
    → DoesWork Rests 13 result before after hashes hashes
unwiped_works unwiped (Ok up) before after hashes is wipes = record {
  done = wiped_rests unwiped before.memory after.memory is wipes.contents wipes.blank;
  meaning = contents_keep before.memory after.memory wipes.ran.ran.sized wipes.contents;
  spared = spared_same before.memory after.memory wipes.ran.flash;
  ran = ok_most 1 13 up up before after (omega arith) wipes.ran.ran;
  cost = omega arith;
}
unwiped_works unwiped (Err stop) before after hashes is wipes = record {
  done = tt;
  meaning = contents_keep before.memory after.memory wipes.ran.ran.sized wipes.contents;
  spared = spared_same before.memory after.memory wipes.ran.flash;
  ran = err_most 1 13 stop stop before after (omega arith) wipes.ran.ran;
  cost = omega arith;
}

-- ---- the wipes of the regions

pub contents_then : (before between after : Memory) → KeepsContents before between → KeepsContents between after → KeepsContents before after
contents_then before between after first second = record { kept = λ contents holds. second.kept contents (first.kept contents holds) }

pub two_leaves_root : (before after : List ℕ) → length before ≡ 28672 → IsSameButOther 2 before after → inactive_area_of_slot after 1 ≡ inactive_area_of_slot before 1
two_leaves_root before after sized same = other_other 2 1 before after (omega arith) (omega arith) (omega arith) (omega arith) (λ e. omega (arith, e)) sized (but_other 2 before after same)

pub three_leaves_root : (before after : List ℕ) → length before ≡ 28672 → IsSameButOther 3 before after → inactive_area_of_slot after 1 ≡ inactive_area_of_slot before 1
three_leaves_root before after sized same = other_other 3 1 before after (omega arith) (omega arith) (omega arith) (omega arith) (λ e. omega (arith, e)) sized (but_other 3 before after same)

pub both_wiped : (before after : List ℕ) → length before ≡ 28672 → IsSameButOther 3 before after → IsBlank (inactive_area_of_slot before 2) → IsBlank (inactive_area_of_slot after 3) → IsWiped after
both_wiped before after sized same two three =
    let stays : inactive_area_of_slot after 2 ≡ inactive_area_of_slot before 2 = other_other 3 2 before after (omega arith) (omega arith) (omega arith) (omega arith) (λ e. omega (arith, e)) sized (but_other 3 before after same) in
    record { two = subst IsBlank (sym stays) two; three = three }

-- a memory at rest with all of these areas wiped is clean
pub cleaned : (first between after : Memory) → Rests first between → KeepsContents between after → inactive_area_of_slot after.bbram 1 ≡ inactive_area_of_slot between.bbram 1 → IsWiped after.bbram → IsLoaded after → Cleans first after
cleaned first between after rests kept root wiped sized = record {
  cleans = λ state means. (
      let rest = rest_kept between after state kept (rests.rests state means) in
      record {
        sized = sized.bbram;
        area = rest.area;
        root = rest.holds.root;
        two = rest.holds.two;
        three = rest.holds.three;
        other_root = subst IsBlank (sym root) rests.blank;
        other_two = wiped.two;
        other_three = wiped.three;
      });
}

-- ---- alive or dead

blank_life : (bbram : List ℕ) → IsBlank bbram → life_byte bbram ≡ 0
blank_life [] blank = refl
blank_life (byte ∷ bytes) blank = blank 0 0 (omega arith)

live_state : (memory : Memory) (known : Option State) → StandsFor memory.flash memory.bbram known → Valid known → HasMeaning memory.flash memory.bbram known → (life_byte memory.bbram == 0) ≡ false → IsLive memory
live_state memory known stands valid (is_dead blank none) alive =
    let zero : life_byte memory.bbram ≡ 0 = blank_life memory.bbram blank in
    let clash : (0 == 0) ≡ false = subst (λ (n : ℕ). (n == 0) ≡ false) zero alive in
    absurd (cc)
live_state memory known stands valid (is_live contents holds index live) alive = record {
  state = state_of_contents contents;
  means = subst (StandsFor memory.flash memory.bbram) live stands;
  valid = subst Valid live valid;
}

pub alive_is_live : (memory : Memory) → StandsForValid memory → (life_byte memory.bbram == 0) ≡ false → IsLive memory
alive_is_live memory is alive = live_state memory is.state is.stands is.valid is.stands.meaning alive

live_by : (flash bbram : List ℕ) (known : Option State) → HasMeaning flash bbram known → (life_byte bbram == 0) ≡ false → false ≡ is_none known
live_by flash bbram known (is_dead blank none) alive =
    let zero : life_byte bbram ≡ 0 = blank_life bbram blank in
    let clash : (0 == 0) ≡ false = subst (λ (n : ℕ). (n == 0) ≡ false) zero alive in
    absurd (cc)
live_by flash bbram known (is_live contents holds index live) alive = ap is_none (sym live)

pub alive_is_some : (memory : Memory) (known : Option State) → (life_byte memory.bbram == 0) ≡ false → StandsFor memory.flash memory.bbram known → false ≡ is_none known
alive_is_some memory known alive stands = live_by memory.flash memory.bbram known stands.meaning alive

kept_by : (before after : Memory) (known : Option State) → KeepsMeaning before after → false ≡ is_none known → StandsFor before.flash before.bbram known → StandsFor after.flash after.bbram known
kept_by before after None kept some stands = absurd (cc)
kept_by before after (Some state) kept some stands = kept.kept state stands

state_kept : (before after : Memory) → (life_byte before.bbram == 0) ≡ false → KeepsMeaning before after → KeepsState before after
state_kept before after alive kept = record { kept = λ known stands. kept_by before after known kept (alive_is_some before known alive stands) stands }

-- ---- the whole boot, from a board that waking has left as it was

pub loaded_as : (first now : Memory) → now ≡ first → StandsForValid first → IsLoaded now
loaded_as first now same is = subst (λ (m : Memory). IsLoaded m) (sym same) is.stands.sized

switched_then : (first between last : Seen) → IsSwitched first between → IsSwitched between last → IsSwitched first last
switched_then first between last one two = record { memory = two.memory ∙ one.memory; ledger = two.ledger ∙ one.ledger; meter = two.meter ∙ one.meter }

events_from : (first climbed last : Seen) (result : Result (Unit {0}) (Unit {0})) → IsSwitched first climbed → KeepsEvents 15 result climbed last → KeepsEvents 15 result first last
events_from first climbed last result same keeps =
    record { ledger = keeps.ledger ∙ same.ledger; meter = subst (λ (m : Meter). IsMetered 15 result m last.meter) same.meter keeps.meter }

quiet_from : (first climbed last : Seen) → IsSwitched first climbed → IsQuiet climbed.memory last.memory climbed.meter last.meter → IsQuiet first.memory last.memory first.meter last.meter
quiet_from first climbed last same quiet =
    subst (λ (m : Meter). IsQuiet first.memory last.memory m last.meter) same.meter (subst (λ (m : Memory). IsQuiet m last.memory climbed.meter last.meter) same.memory quiet)

-- whether the life byte says that the device is dead is told of the board that has woken
told_of : (first woken : Seen) (dead told : Bool) → IsSwitched first woken → dead ≡ (life_byte woken.memory.bbram == 0) → dead ≡ told → (life_byte first.memory.bbram == 0) ≡ told
told_of first woken dead told same is was = subst (λ (m : Memory). (life_byte m.bbram == 0) ≡ told) same.memory (sym is ∙ was)

pub climbed_live : (first woken climbed : Seen) (dead : Bool) → IsSwitched first woken → ReachesLevel 1 woken climbed → StandsForValid first.memory → dead ≡ (life_byte woken.memory.bbram == 0) → dead ≡ false → IsLiveBoard climbed
climbed_live first woken climbed dead same climbs is tells alive =
    let switched = switched_then first woken climbed same climbs.switched in
    record {
      up = record { on = climbs.power; at_level = climbs.level; loaded = loaded_as first.memory climbed.memory switched.memory is };
      live = subst IsLive (sym switched.memory) (alive_is_live first.memory is (told_of first woken dead false same tells alive));
    }

-- a device that comes up, or whose work power stops
pub boots_up : {A : Type 0} (value : A) (up : Up R1) (first woken climbed last : Seen) (dead : Bool) (hashes hashes_after : ℕ) → IsSwitched first woken → ReachesLevel 1 woken climbed
    → dead ≡ (life_byte woken.memory.bbram == 0) → dead ≡ false → DoesWork Cleans 15 {E = Off} (Ok up) climbed last hashes hashes_after → IsQuiet climbed.memory last.memory climbed.meter last.meter
    → Boots {A = A} (Ok value) first last hashes hashes_after
boots_up value up first woken climbed last dead hashes hashes_after same climbs tells is work quiet =
    let switched = switched_then first woken climbed same climbs.switched in
    let alive = told_of first woken dead false same tells is in
    record {
      clean = subst (λ (m : Memory). Cleans m last.memory) switched.memory work.done;
      meaning = state_kept first.memory last.memory alive (subst (λ (m : Memory). KeepsMeaning m last.memory) switched.memory work.meaning);
      spared = subst (λ (m : Memory). SparesSectors m last.memory) switched.memory work.spared;
      zeroised = λ known stands. alive_is_some first.memory known alive stands;
      quiet = quiet_from first climbed last switched quiet;
      unwritten = tt;
      power = work.ran.power;
      level = work.ran.level ∙ climbs.level;
      events = events_from first climbed last (Ok tt) switched (record { ledger = work.ran.ledger; meter = record { armed = work.ran.meter.armed; stops = work.ran.meter.stops; writes = work.ran.meter.writes; cut = tt } });
      cost = work.cost;
    }

pub boots_stopped : {A : Type 0} (off : Off) (first woken climbed last : Seen) (dead : Bool) (hashes hashes_after : ℕ) → IsSwitched first woken → ReachesLevel 1 woken climbed
    → dead ≡ (life_byte woken.memory.bbram == 0) → dead ≡ false → DoesWork Cleans 15 {A = Up R1} (Err off) climbed last hashes hashes_after → IsQuiet climbed.memory last.memory climbed.meter last.meter
    → Boots {A = A} (Err (end.Stopped off)) first last hashes hashes_after
boots_stopped off first woken climbed last dead hashes hashes_after same climbs tells is work quiet =
    let switched = switched_then first woken climbed same climbs.switched in
    let alive = told_of first woken dead false same tells is in
    record {
      clean = tt;
      meaning = state_kept first.memory last.memory alive (subst (λ (m : Memory). KeepsMeaning m last.memory) switched.memory work.meaning);
      spared = subst (λ (m : Memory). SparesSectors m last.memory) switched.memory work.spared;
      zeroised = λ known stands. alive_is_some first.memory known alive stands;
      quiet = quiet_from first climbed last switched quiet;
      unwritten = tt;
      power = work.ran.power;
      level = tt;
      events = events_from first climbed last (Err tt) switched (record { ledger = work.ran.ledger; meter = record { armed = work.ran.meter.armed; stops = work.ran.meter.stops; writes = work.ran.meter.writes; cut = work.ran.meter.cut } });
      cost = work.cost;
    }
