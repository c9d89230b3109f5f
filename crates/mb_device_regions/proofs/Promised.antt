-- What calls hand on of what the calls beneath them promise.
use Rattle.std.proofs.Common.{◌≡◌, ℕ, List, Option, None, Some, Ok, Err, refl, sym, subst, arith, ◌∙◌}
use Rattle.std.specs.Prelude.{find}
use Rattle.mb_area.specs.Flashes.{CanBeNamed}
use Rattle.mb_board.specs.Calls.{Seen, IsUp, RanOnBbram}
use Rattle.mb_layout.specs.declared.room.Room.{Room}
use Rattle.mb_layout.specs.Plans.{SamePlans}
use Rattle.mb_model.specs.declared.key.KeySeed.{KeySeed}
use Rattle.mb_model.specs.declared.region.Region.{Region}
use Rattle.mb_model.specs.declared.region.RegionKey.{RegionKey}
use Rattle.mb_model.specs.declared.reply.Reply.{Reply}
use Rattle.mb_model.specs.declared.state.State.{State}
use Rattle.mb_model.specs.declared.stored.Slot.{Slot}
use Rattle.mb_model.specs.machine.LayerEvents.{Outcome, has_number}
use Rattle.mb_model.specs.memories.Flash.{HoldsCode}
use Rattle.mb_model.specs.owners.Regions.{region_of}
use Rattle.mb_model_memory.specs.Answering.{IsAnswered}
use Rattle.mb_model_memory.specs.Holding.{IsReady, HasReady}
use Rattle.mb_device_orders.specs.declared.remembering.Known.{Known}
use Rattle.mb_device_orders.specs.declared.remembering.Running.{Running}
use Rattle.mb_device_orders.specs.Remembering.{IsDeviceTree, Knows, KnowsCode, CanAnswer}
use Rattle.mb_outbound.specs.declared.kept.RegionTree.{RegionTree}
use Rattle.mb_outbound.specs.Binding.{IsBound}
use Rattle.mb_outbound.specs.KeptTrees.{IsKeptFor, IsKeptIn}
use Rattle.mb_outbound.proofs.Seeds.{bound_is_keys}
use Rattle.mb_signer.specs.declared.tree.KeptTree.{KeptTree}
use Rattle.mb_slot.specs.Slots.{RanInSlot}
use Rattle.mb_device_regions.specs.Calls.{AnswersIn}
use Rattle.mb_device_regions.specs.Statements.{SameBesidesTree, IsKeptOfSeed}

pub remembered_ready : {known : Known} {level : ℕ} {seen : Seen} → CanAnswer level known seen → HasReady seen.memory
remembered_ready can = record { state = can.remembered.state; ready = can.remembered.ready }

-- ---- other results of the same calls

pub on_bbram : {A B C D : Type 0} (n slot : ℕ) (value : A) (other : B) (before after : Seen) → RanInSlot n slot {A = A} {E = C} (Ok value) before after → RanOnBbram n {A = B} {E = D} (Ok other) before after
on_bbram n slot value other before after it = record {
  ran = record {
    power = it.ran.power;
    level = it.ran.level;
    sized = it.ran.sized;
    ledger = it.ran.ledger;
    meter = record { armed = it.ran.meter.armed; stops = it.ran.meter.stops; writes = it.ran.meter.writes; cut = tt };
  };
  flash = it.flash;
}

pub cut_on_bbram : {A B C D : Type 0} (n slot : ℕ) (stop : C) (other : D) (before after : Seen) → RanInSlot n slot {A = A} {E = C} (Err stop) before after → RanOnBbram n {A = B} {E = D} (Err other) before after
cut_on_bbram n slot stop other before after it = record {
  ran = record {
    power = it.ran.power;
    level = it.ran.level;
    sized = it.ran.sized;
    ledger = it.ran.ledger;
    meter = record { armed = it.ran.meter.armed; stops = it.ran.meter.stops; writes = it.ran.meter.writes; cut = it.ran.meter.cut };
  };
  flash = it.flash;
}

pub told_on_bbram : {A B C D : Type 0} (n : ℕ) (value : A) (other : B) (before after : Seen) → RanOnBbram n {A = A} {E = C} (Ok value) before after → RanOnBbram n {A = B} {E = D} (Ok other) before after
told_on_bbram n value other before after it = record {
  ran = record {
    power = it.ran.power;
    level = it.ran.level;
    sized = it.ran.sized;
    ledger = it.ran.ledger;
    meter = record { armed = it.ran.meter.armed; stops = it.ran.meter.stops; writes = it.ran.meter.writes; cut = tt };
  };
  flash = it.flash;
}

pub stopped_on_bbram : {A B C D : Type 0} (n : ℕ) (stop : C) (other : D) (before after : Seen) → RanOnBbram n {A = A} {E = C} (Err stop) before after → RanOnBbram n {A = B} {E = D} (Err other) before after
stopped_on_bbram n stop other before after it = record {
  ran = record {
    power = it.ran.power;
    level = it.ran.level;
    sized = it.ran.sized;
    ledger = it.ran.ledger;
    meter = record { armed = it.ran.meter.armed; stops = it.ran.meter.stops; writes = it.ran.meter.writes; cut = it.ran.meter.cut };
  };
  flash = it.flash;
}

pub plans_then : {first second third : Room} → SamePlans first second → SamePlans second third → SamePlans first third
plans_then one two = record {
  code = two.code ∙ one.code;
  code_layer = two.code_layer ∙ one.code_layer;
  header = two.header ∙ one.header;
  log = two.log ∙ one.log;
}

-- ---- what is remembered

-- where codes stand is known still
pub codes_stay : (known known_after : Known) (flash flash_after : List ℕ) (state : State) → known_after.two ≡ known.two → known_after.three ≡ known.three → flash_after ≡ flash
    → KnowsCode known flash state → KnowsCode known_after flash_after state
codes_stay known known_after flash flash_after state two three same codes =
    subst (λ (f : List ℕ). KnowsCode known_after f state) (sym same) (record {
      two = subst (λ (slot : Slot). HoldsCode flash 2 slot state.codes.two) (sym two) codes.two;
      three = subst (λ (slot : Slot). HoldsCode flash 3 slot state.codes.three) (sym three) codes.three;
      two_named = subst CanBeNamed (sym two) codes.two_named;
      three_named = subst CanBeNamed (sym three) codes.three_named;
    })

-- a key that was bound in a region is bound in another with the same keys
pub bound_in : (region other : Region) (number right : ℕ) (seed : KeySeed) → region.keys ≡ other.keys → IsBound region number right seed → IsBound other number right seed
bound_in region other number right seed same bound = record {
  key = bound.key;
  has_use = record { found = subst (λ (keys : List RegionKey). find (has_number number) keys ≡ Some bound.key) same bound.has_use.found; left = bound.has_use.left };
  index = bound.index;
  seed = bound.seed;
}

kept_in : (kept : Option RegionTree) (L number right : ℕ) (seed : KeySeed) (state : State) → IsKeptOfSeed kept L number seed → IsBound (region_of state L) number right seed → IsKeptIn kept state
kept_in None L number right seed state kept bound = absurd kept
kept_in (Some own) L number right seed state kept bound = bound_is_keys own L number right seed state kept.0 kept.1 kept.2 bound

-- once a key has signed, what is remembered is true still
pub signed_knows : (known known_after : Known) (L number right : ℕ) (seed : KeySeed) (state : State) → SameBesidesTree known known_after → IsKeptOfSeed known_after.trees.value.region L number seed
    → IsBound (region_of state L) number right seed → Knows known state → Knows known_after state
signed_knows known known_after L number right seed state same kept bound knows = record {
  serial = same.serial ∙ knows.serial;
  figures = same.figures ∙ knows.figures;
  trees = record {
    device = subst (λ (tree : Option KeptTree). IsDeviceTree tree state) (sym same.device) knows.trees.device;
    region = kept_in known_after.trees.value.region L number right seed state kept bound;
  };
}

-- a tree that is kept for a seed is kept for its key
pub kept_for : (kept : Option RegionTree) (L number : ℕ) (seed : KeySeed) → IsKeptOfSeed kept L number seed → IsKeptFor kept L number
kept_for None L number seed kept = absurd kept
kept_for (Some own) L number seed kept = (kept.0, kept.1)

-- ---- an answer for which nothing was written

pub answers_idle : {S E : Type 0} (L level : ℕ) (outcome : State → Outcome) (running running_after : Running) (handed : S) (answer : Reply) (seen : Seen) → IsUp level seen → running_after.known ≡ running.known
    → SamePlans running.room running_after.room
    → ((state : State) → IsReady seen.memory state → IsAnswered (outcome state) answer seen.memory seen.memory)
    → AnswersIn L outcome running running_after {S = S} {E = E} (Ok (handed, answer)) seen seen
answers_idle L level outcome running running_after handed answer seen up same plans told = record {
  told = λ state ready runs knows. told state ready;
  writes = λ uncut. (refl, refl);
  known = λ state ready knows. rw same knows;
  codes = λ state codes. rw same codes;
  ran = record {
    ran = record { power = up.on; level = refl; sized = up.loaded; ledger = refl; meter = record { armed = refl; stops = refl; writes = omega arith; cut = tt } };
    flash = refl;
  };
  plans = plans;
}
