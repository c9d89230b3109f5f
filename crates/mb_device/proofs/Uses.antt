-- A layer's use of its region, as a step of the machine.
use Rattle.std.proofs.Common.{◌≡◌, ℕ, ◌≤◌, Bool, true, false, Option, None, Some, refl, sym, ap, subst, ◌∙◌, inl, inr, arith, eqb-true, List, length}
use Rattle.std.specs.Prelude.{◌==◌, find, filter, ◌&&◌, nat_le, Result, Ok, Err, IsTrue, ◌⊎◌, not, ◌||◌, nat_lt, if◌then◌else◌}
use Rattle.std.proofs.lemmas.Bool.{le-ltb}
use mathlib.Core.Bool.{or-true}
use Rattle.mb_ratchet.specs.declared.state.Off.{Off}
use Rattle.mb_model.specs.declared.event.Event.{Event}
use Rattle.mb_model.specs.declared.event.Event.TheVariants as event
use Rattle.mb_model.specs.declared.reply.Reply.{Reply}
use Rattle.mb_model.specs.declared.reply.Reply.TheVariants as reply
use Rattle.mb_model.specs.declared.region.RegionKey.{RegionKey}
use Rattle.mb_model.specs.declared.region.Region.{Region}
use Rattle.mb_model.specs.declared.region.Secret.{Secret}
use Rattle.mb_model.specs.records.ChainFormat.{statement_format}
use Rattle.std.specs.List.{list_any}
use Rattle.mb_area.specs.Flashes.{CanBeNamed}
use Rattle.mb_model.specs.declared.stored.Slot.{Slot}
use Rattle.mb_model.specs.declared.state.Codes.{Codes}
use Rattle.mb_model.specs.declared.state.State.{State}
use Rattle.mb_model.specs.memories.Flash.{HoldsCode}
use Rattle.mb_model.specs.outside.Board.{Memory, Meter, Held}
use Rattle.mb_model.specs.owners.Layers.{is_runnable, is_upper}
use Rattle.mb_model.specs.machine.LayerEvents.{Outcome, put_event, get_event, drop_event, sign_event, sign_with, code_in, takes_calls, value_reply, has_name, has_number, with_secret, with_use, statement_of}
use Rattle.mb_model.specs.owners.Log.{entries_of, number_of}
use Rattle.mb_model.specs.machine.Machine.{ratchet, World, Told, running_state_in, region_event, Machine, machine_step, may_want_memory}
use Rattle.mb_model.specs.owners.Regions.{region_of, with_region}
use Rattle.mb_model.specs.declared.reply.Refusal.{Refusal}
use Rattle.mb_model.specs.declared.reply.Refusal.TheVariants.{WrongLayer, WrongCode, RegionFull, KeySpent}
use Rattle.mb_model.specs.machine.Refusals.{refusal_reply}
use Rattle.mb_model.specs.chains.Script.{IsScriptEvent}
use Rattle.mb_model.specs.memories.Valid.{Valid, IsValidState}
use Rattle.mb_board.specs.Calls.{held_by, held_in, IsMetered, IsUp, Seen}
use Rattle.mb_model_lemmas.proofs.ValidSteps.{machine_valid}
use Rattle.mb_model_memory.specs.Holding.{IsReady}
use Rattle.mb_model_memory.specs.Answering.{IsAnswered, lacks, tells, IsCutShort}
use Rattle.mb_outbound.proofs.Seeds.{KeepsSeeds, use_keeps_seeds, kept_stays}
use Rattle.mb_device_orders.specs.Remembering.{Knows, KnowsCode, slot_known, IsRemembered}
use Rattle.mb_device_orders.specs.declared.remembering.Known.{Known}
use Rattle.mb_device.specs.declared.device.Device.{Device}
use Rattle.mb_device.specs.declared.device.Device.TheVariants as device
use Rattle.mb_device_orders.specs.declared.remembering.Running.{Running}
use Rattle.mb_device.specs.Sound.{IsSoundDevice, IsRunning, Fits, Steps}
use Rattle.mb_device.specs.Stepping.{stop_told}
use Rattle.mb_device.specs.Regions.{IsLayerEvent, region_named, layer_outcome}
use Rattle.mb_device.proofs.Worlds.{at_ratchet, by_region}
use Rattle.mb_device.proofs.Taken.{same_parts}
use Rattle.mb_device.proofs.Steps as steps
use Rattle.mb_device.proofs.Steps.{live_world, the_world, live_sound, running_ready, cut_short, refuses}

-- ---- what is remembered of the layers

pub known_layers : (known : Known) (state : State) → Knows known state → IsValidState state → known.figures.layers ≡ state.layers
known_layers known state knows valid = ap (λ f. f.layers) knows.figures ∙ sym valid.layers

pub known_runs : (known : Known) (state : State) (L : ℕ) (b : Bool) → Knows known state → IsValidState state → is_runnable known.figures.layers L ≡ b → is_runnable state.layers L ≡ b
known_runs known state L b knows valid runs = subst (λ layers. is_runnable layers L ≡ b) (known_layers known state knows valid) runs

-- ---- what the machine makes of it

-- control is no further than at the layer, which may run, and its code takes no calls
pub region_machine : (r L : ℕ) (state : State) (armed : Bool) (e : Event) → IsLayerEvent e → L ≡ region_named e → r ≤ L → is_runnable state.layers L ≡ true
    → takes_calls (code_in state.codes L) ≡ false → Machine (live_world r state armed) e (layer_outcome L e state).0 (live_world r (layer_outcome L e state).1 armed)
region_machine r L state armed e is named here runs unsealed =
    by_region (live_world r state armed) e (layer_outcome L e state).0 (live_world r (layer_outcome L e state).1 armed) is
    (subst (λ (m : ℕ). ◌≡◌ {A = Told} ((layer_outcome L e state).0, live_world r (layer_outcome L e state).1 armed) (region_event (live_world r state armed) m (layer_outcome m e) (Ok (r, state)))) named
    (rw (le-ltb L r here, runs, unsealed) refl))

-- its code takes calls
region_sealed : (r L : ℕ) (state : State) (armed : Bool) (e : Event) → IsLayerEvent e → L ≡ region_named e → r ≤ L → is_runnable state.layers L ≡ true
    → takes_calls (code_in state.codes L) ≡ true → Machine (live_world r state armed) e (refusal_reply WrongCode) (live_world r state armed)
region_sealed r L state armed e is named here runs sealed =
    by_region (live_world r state armed) e (refusal_reply WrongCode) (live_world r state armed) is
    (subst (λ (m : ℕ). ◌≡◌ {A = Told} (refusal_reply WrongCode, live_world r state armed) (region_event (live_world r state armed) m (layer_outcome m e) (Ok (r, state)))) named
    (rw (le-ltb L r here, runs, sealed) refl))

-- control is past it, or it may not run
pub region_barred : (r L : ℕ) (state : State) (armed : Bool) (e : Event) → IsLayerEvent e → L ≡ region_named e → (nat_lt L r || not (is_runnable state.layers L)) ≡ true
    → Machine (live_world r state armed) e (refusal_reply WrongLayer) (live_world r state armed)
region_barred r L state armed e is named barred_so =
    by_region (live_world r state armed) e (refusal_reply WrongLayer) (live_world r state armed) is
    (subst (λ (m : ℕ). ◌≡◌ {A = Told} (refusal_reply WrongLayer, live_world r state armed) (region_event (live_world r state armed) m (layer_outcome m e) (Ok (r, state)))) named
    (rw barred_so refl))

pub cannot_run : (b : Bool) (past : Bool) → b ≡ false → (past || not b) ≡ true
cannot_run b past e = rw e (or-true past)

-- a use that a running device refuses
pub use_refused : (after : Device) (r L : ℕ) (running : Running) (held : Held) (world : World) (e : Event) (answer : Reply) → IsLayerEvent e → L ≡ region_named e → answer ≡ refusal_reply WrongLayer
    → IsSoundDevice after held world → (own : IsRunning r running held.memory.flash world) → Fits after held.memory.flash world → (nat_lt L r ≡ true) ⊎ (is_runnable running.known.figures.layers L ≡ false) → Steps world e answer after held
use_refused after r L running held world e answer is named told sound own fits why =
    let valid : IsValidState own.state = subst Valid own.live sound.valid in
    let state : State = own.state in
    let past : (nat_lt L r || not (is_runnable state.layers L)) ≡ true = elim why [
      | inl over ↦ rw over refl
      | inr still ↦ cannot_run (is_runnable state.layers L) (nat_lt L r) (known_runs running.known state L false own.knows valid still)
    ] in
    let same : world ≡ live_world r state world.armed = the_world world r state own.phase own.live in
    let machine : Machine world e (refusal_reply WrongLayer) world =
    subst (λ (w : World). Machine w e (refusal_reply WrongLayer) w) (sym same) (region_barred r L state world.armed e is named past) in
    refuses after after held world e answer WrongLayer told machine sound fits

-- a use of a region that is its code's alone
pub use_sealed : (after : Device) (r L : ℕ) (running : Running) (held : Held) (world : World) (e : Event) (answer : Reply) → IsLayerEvent e → L ≡ region_named e → r ≤ L → answer ≡ refusal_reply WrongCode
    → IsSoundDevice after held world → (own : IsRunning r running held.memory.flash world) → Fits after held.memory.flash world → is_runnable running.known.figures.layers L ≡ true
    → takes_calls (code_in own.state.codes L) ≡ true → Steps world e answer after held
use_sealed after r L running held world e answer is named here told sound own fits runs sealed =
    let valid : IsValidState own.state = subst Valid own.live sound.valid in
    let state : State = own.state in
    let same : world ≡ live_world r state world.armed = the_world world r state own.phase own.live in
    let machine : Machine world e (refusal_reply WrongCode) world =
    subst (λ (w : World). Machine w e (refusal_reply WrongCode) w) (sym same)
    (region_sealed r L state world.armed e is named here (known_runs running.known state L true own.knows valid runs) sealed) in
    refuses after after held world e answer WrongCode told machine sound fits

-- ---- a use that is answered

wants : (e : Event) → IsLayerEvent e → IsTrue (may_want_memory e)
wants (event.Put L name value) is = refl
wants (event.Get L name) is = refl
wants (event.Drop L name) is = refl
wants (event.Sign L key message) is = refl
wants (event.Call L key input) is = absurd is
wants event.Boot is = absurd is
wants event.Off is = absurd is
wants event.Tamper is = absurd is
wants event.Status is = absurd is
wants event.Go is = absurd is
wants (event.Cut count tear) is = absurd is
wants (event.Order text draw) is = absurd is

-- a use of a region leaves serial and log, and the seeds of keys
pick : (P : State → Type 0) (b : Bool) (x y : Outcome) → P x.1 → P y.1 → P (if b then x else y).1
pick P true x y first second = first
pick P false x y first second = second

-- it leaves the codes
same_codes : (known : Known) (flash : List ℕ) (state next : State) → next.codes ≡ state.codes → KnowsCode known flash state → KnowsCode known flash next
same_codes known flash state next same codes = record {
  two = subst (λ (cs : Codes). HoldsCode flash 2 known.two cs.two) (sym same) codes.two;
  three = subst (λ (cs : Codes). HoldsCode flash 3 known.three cs.three) (sym same) codes.three;
  two_named = codes.two_named;
  three_named = codes.three_named;
}

pub codes_edited : (known : Known) (flash : List ℕ) (L : ℕ) (region : Region) (state : State) → KnowsCode known flash state → KnowsCode known flash (with_region state L region)
codes_edited known flash L region state codes = same_codes known flash state (with_region state L region) refl codes

-- a region that is edited, and leaves the seeds of its keys
pub knows_edited : (known : Known) (L : ℕ) (region : Region) (state : State) → KeepsSeeds (region_of state L) region → Knows known state → Knows known (with_region state L region)
knows_edited known L region state same knows = record {
  serial = knows.serial;
  figures = knows.figures;
  trees = record {
    device = knows.trees.device;
    region = kept_stays known.trees.value.region L region state same knows.trees.region;
  };
}

pub put_keeps : (known : Known) (L : ℕ) (name value : List ℕ) (state : State) → Knows known state → Knows known (put_event L name value state).1
unfolding put_event
put_keeps known L name value state knows =
    let new : Secret = record { name = name; value = value; born = number_of (entries_of state.log) } in
    let region : Region = record (region_of state L) { secrets = with_secret new (region_of state L).secrets } in
    pick (Knows known) _ _ _ knows (knows_edited known L region state (λ number. refl) knows)

get_keeps : (known : Known) (L : ℕ) (name : List ℕ) (state : State) → Knows known state → Knows known (get_event L name state).1
unfolding get_event
get_keeps known L name state knows = knows

pub drop_keeps : (known : Known) (L : ℕ) (name : List ℕ) (state : State) → Knows known state → Knows known (drop_event L name state).1
unfolding drop_event
drop_keeps known L name state knows =
    let others : List Secret = filter (λ (secret : Secret). not (has_name name secret)) (region_of state L).secrets in
    let region : Region = record (region_of state L) { secrets = others } in
    pick (Knows known) _ _ _ (knows_edited known L region state (λ number. refl) knows) knows

sign_with_keeps : (known : Known) (L : ℕ) (key : Option RegionKey) (message : List ℕ) (state : State) → Knows known state → Knows known (sign_with L key message state).1
sign_with_keeps known L None message state knows = knows
sign_with_keeps known L (Some key) message state knows =
    let region : Region = record (region_of state L) { keys = with_use key.number (region_of state L).keys } in
    pick (Knows known) _ _ _ knows (knows_edited known L region state (λ number. use_keeps_seeds key.number number (region_of state L).keys) knows)

sign_keeps : (known : Known) (L number : ℕ) (message : List ℕ) (state : State) → Knows known state → Knows known (sign_event L number message state).1
unfolding sign_event
sign_keeps known L number message state knows = sign_with_keeps known L (find (has_number number) (region_of state L).keys) message state knows

pub keeps_known : (known : Known) (L : ℕ) (e : Event) (state : State) → IsLayerEvent e → Knows known state → Knows known (layer_outcome L e state).1
keeps_known known L (event.Put M name value) state is knows = put_keeps known L name value state knows
keeps_known known L (event.Get M name) state is knows = get_keeps known L name state knows
keeps_known known L (event.Drop M name) state is knows = drop_keeps known L name state knows
keeps_known known L (event.Sign M key message) state is knows = sign_keeps known L key message state knows
keeps_known known L (event.Call M key input) state is knows = absurd is
keeps_known known L event.Boot state is knows = absurd is
keeps_known known L event.Off state is knows = absurd is
keeps_known known L event.Tamper state is knows = absurd is
keeps_known known L event.Status state is knows = absurd is
keeps_known known L event.Go state is knows = absurd is
keeps_known known L (event.Cut count tear) state is knows = absurd is
keeps_known known L (event.Order text draw) state is knows = absurd is

pub put_codes : (known : Known) (flash : List ℕ) (L : ℕ) (name value : List ℕ) (state : State) → KnowsCode known flash state → KnowsCode known flash (put_event L name value state).1
unfolding put_event
put_codes known flash L name value state codes =
    let new : Secret = record { name = name; value = value; born = number_of (entries_of state.log) } in
    let region : Region = record (region_of state L) { secrets = with_secret new (region_of state L).secrets } in
    pick (KnowsCode known flash) _ _ _ codes (codes_edited known flash L region state codes)

pub drop_codes : (known : Known) (flash : List ℕ) (L : ℕ) (name : List ℕ) (state : State) → KnowsCode known flash state → KnowsCode known flash (drop_event L name state).1
unfolding drop_event
drop_codes known flash L name state codes =
    let others : List Secret = filter (λ (secret : Secret). not (has_name name secret)) (region_of state L).secrets in
    let region : Region = record (region_of state L) { secrets = others } in
    pick (KnowsCode known flash) _ _ _ (codes_edited known flash L region state codes) codes

get_codes : (known : Known) (flash : List ℕ) (L : ℕ) (name : List ℕ) (state : State) → KnowsCode known flash state → KnowsCode known flash (get_event L name state).1
unfolding get_event
get_codes known flash L name state codes = codes

sign_with_codes : (known : Known) (flash : List ℕ) (L : ℕ) (key : Option RegionKey) (message : List ℕ) (state : State) → KnowsCode known flash state → KnowsCode known flash (sign_with L key message state).1
sign_with_codes known flash L None message state codes = codes
sign_with_codes known flash L (Some key) message state codes =
    let region : Region = record (region_of state L) { keys = with_use key.number (region_of state L).keys } in
    pick (KnowsCode known flash) _ _ _ codes (codes_edited known flash L region state codes)

sign_codes : (known : Known) (flash : List ℕ) (L number : ℕ) (message : List ℕ) (state : State) → KnowsCode known flash state → KnowsCode known flash (sign_event L number message state).1
unfolding sign_event
sign_codes known flash L number message state codes = sign_with_codes known flash L (find (has_number number) (region_of state L).keys) message state codes

-- and where the codes stand
keeps_codes : (known : Known) (flash : List ℕ) (L : ℕ) (e : Event) (state : State) → IsLayerEvent e → KnowsCode known flash state → KnowsCode known flash (layer_outcome L e state).1
keeps_codes known flash L (event.Put M name value) state is codes = put_codes known flash L name value state codes
keeps_codes known flash L (event.Get M name) state is codes = get_codes known flash L name state codes
keeps_codes known flash L (event.Drop M name) state is codes = drop_codes known flash L name state codes
keeps_codes known flash L (event.Sign M key message) state is codes = sign_codes known flash L key message state codes
keeps_codes known flash L (event.Call M key input) state is codes = absurd is
keeps_codes known flash L event.Boot state is codes = absurd is
keeps_codes known flash L event.Off state is codes = absurd is
keeps_codes known flash L event.Tamper state is codes = absurd is
keeps_codes known flash L event.Status state is codes = absurd is
keeps_codes known flash L event.Go state is codes = absurd is
keeps_codes known flash L (event.Cut count tear) state is codes = absurd is
keeps_codes known flash L (event.Order text draw) state is codes = absurd is

-- ---- an event with an outcome, in a running device

module _ (r : ℕ) (before : Device) (running : Running) (e : Event) (old : Memory) (power : Bool) (level : ℕ) (meter : Meter) (world : World)
    (sound : IsSoundDevice before (held_by old power level meter) world) (own : IsRunning r running old.flash world) (some : 1 ≤ r) where
  -- memory was wanted
  pub outcome_lacks : (after : Device) (running_new : Running) (answer : Reply) (new : Memory) (power_new : Bool) (level_new : ℕ) (meter_new : Meter)
      → answer ≡ reply.NoMemory → new ≡ old → IsTrue (may_want_memory e) → power_new ≡ power → level_new ≡ level → meter_new.armed ≡ meter.armed
      → ((w : World) → IsRunning r running_new new.flash w → Fits after new.flash w) → Knows running_new.known own.state → KnowsCode running_new.known new.flash own.state
      → Steps world e answer after (held_by new power_new level_new meter_new)
  outcome_lacks after running_new answer new power_new level_new meter_new wanted same wants_it same_power same_level same_armed fits knows codes =
      let held_same : held_by new power_new level_new meter_new ≡ held_by old power level meter = same_parts old new power power_new level level_new meter meter_new same same_power same_level same_armed in
      steps.lacks before after (held_by old power level meter) (held_by new power_new level_new meter_new) world e answer wanted wants_it held_same sound
      (subst (λ (m : Memory). Fits after m.flash world) same (fits world (record { phase = own.phase; state = own.state; live = own.live; knows = knows; codes = codes })))

  -- the answer is the outcome's, and the memory is ready with its state
  pub outcome_told : (after : Device) (running_new : Running) (answer : Reply) (outcome : Outcome) (new : Memory) (power_new : Bool) (level_new : ℕ) (meter_new : Meter)
      → Machine world e outcome.0 (live_world r outcome.1 world.armed) → answer ≡ outcome.0 → IsReady new outcome.1 → power_new ≡ power → level_new ≡ level → meter_new.armed ≡ meter.armed
      → power ≡ true → level ≡ r → ((w : World) → IsRunning r running_new new.flash w → Fits after new.flash w) → Knows running_new.known outcome.1 → KnowsCode running_new.known new.flash outcome.1
      → Steps world e answer after (held_by new power_new level_new meter_new)
  outcome_told after running_new answer outcome new power_new level_new meter_new machine told ready same_power same_level same_armed on at fits knows codes =
      let armed : world.armed ≡ meter_new.armed = sound.shown.armed ∙ sym same_armed in
      record {
        next = live_world r outcome.1 meter_new.armed;
        step = machine_step (subst (λ (a : Reply). Machine world e a (live_world r outcome.1 meter_new.armed)) (sym told)
            (subst (λ (b : Bool). Machine world e outcome.0 (live_world r outcome.1 b)) armed machine));
        sound = live_sound after r new power_new level_new meter_new outcome.1 ready (same_power ∙ on) (same_level ∙ at) some
            (fits (live_world r outcome.1 meter_new.armed) (record { phase = refl; state = outcome.1; live = refl; knows = knows; codes = codes }));
      }

  -- power failed
  pub outcome_cut : (state : Off) (outcome : Outcome) (new : Memory) (power_new : Bool) (level_new : ℕ) (meter_new : Meter) → Machine world e outcome.0 (live_world r outcome.1 world.armed)
      → IsCutShort own.state outcome new → power_new ≡ false → meter_new.armed ≡ false → meter.armed ≡ true → Steps world e reply.Stopped (device.Off state) (held_by new power_new level_new meter_new)
  outcome_cut state outcome new power_new level_new meter_new machine cut gone disarmed armed =
      let whole : World = live_world r outcome.1 world.armed in
      let is_armed : world.armed ≡ true = sound.shown.armed ∙ armed in
      elim (cut.counts) [
        | inl before_it ↦ cut_short state world e outcome.0 whole (Some own.state) new power_new level_new meter_new machine is_armed cut.writes
            (inl (sym own.live)) before_it (subst Valid own.live sound.valid) gone disarmed
        | inr after_it ↦ cut_short state world e outcome.0 whole (Some outcome.1) new power_new level_new meter_new machine is_armed cut.writes
            (inr refl) after_it (machine_valid world e outcome.0 whole sound.valid machine) gone disarmed
      ]

-- ---- a use of a region

-- a running device that may use its region
pub record IsUse (r L : ℕ) (before : Device) (running : Running) (e : Event) (old : Memory) (power : Bool) (level : ℕ) (meter : Meter) (world : World) : Type 0 where
  pub sound : IsSoundDevice before (held_by old power level meter) world
  pub own : IsRunning r running old.flash world
  pub unsealed : takes_calls (code_in own.state.codes L) ≡ false
  pub layer : IsLayerEvent e
  pub named : L ≡ region_named e
  pub here : r ≤ L
  pub some : 1 ≤ r
  pub runs : is_runnable running.known.figures.layers L ≡ true

module _ (r L : ℕ) (before : Device) (running : Running) (e : Event) (old : Memory) (power : Bool) (level : ℕ) (meter : Meter) (world : World)
    (use_is : IsUse r L before running e old power level meter world) where
  pub use_ready : IsReady old use_is.own.state
  use_ready = running_ready before r (held_by old power level meter) world use_is.own.state use_is.sound use_is.own.phase use_is.own.live

  pub use_runs : is_runnable use_is.own.state.layers L ≡ true
  use_runs = known_runs running.known use_is.own.state L true use_is.own.knows use_ready.valid use_is.runs

  use_world : world ≡ live_world r use_is.own.state world.armed
  use_world = the_world world r use_is.own.state use_is.own.phase use_is.own.live

  use_machine : Machine world e (layer_outcome L e use_is.own.state).0 (live_world r (layer_outcome L e use_is.own.state).1 world.armed)
  use_machine = subst (λ (w : World). Machine w e (layer_outcome L e use_is.own.state).0 (live_world r (layer_outcome L e use_is.own.state).1 world.armed)) (sym use_world)
      (region_machine r L use_is.own.state world.armed e use_is.layer use_is.named use_is.here use_runs use_is.unsealed)

  pub use_told : (after : Device) (running_new : Running) (answer : Reply) (new : Memory) (power_new : Bool) (level_new : ℕ) (meter_new : Meter)
      → IsAnswered (layer_outcome L e use_is.own.state) answer old new → power_new ≡ power → level_new ≡ level
      → meter_new.armed ≡ meter.armed → power ≡ true → level ≡ r → ((w : World) → IsRunning r running_new new.flash w → Fits after new.flash w)
      → Knows running_new.known use_is.own.state → KnowsCode running_new.known new.flash use_is.own.state
      → Steps world e answer after (held_by new power_new level_new meter_new)
  use_told after running_new answer new power_new level_new meter_new (lacks wanted same) same_power same_level same_armed on at fits known codes =
      outcome_lacks r before running e old power level meter world use_is.sound use_is.own use_is.some after running_new answer new power_new level_new meter_new wanted same (wants e use_is.layer)
      same_power same_level same_armed fits known codes
  use_told after running_new answer new power_new level_new meter_new (tells told ready) same_power same_level same_armed on at fits known codes =
      outcome_told r before running e old power level meter world use_is.sound use_is.own use_is.some after running_new answer (layer_outcome L e use_is.own.state) new power_new level_new meter_new
      use_machine told ready same_power same_level same_armed on at fits
      (keeps_known running_new.known L e use_is.own.state use_is.layer known) (keeps_codes running_new.known new.flash L e use_is.own.state use_is.layer codes)

  -- power failed
  pub use_cut : (state : Off) (new : Memory) (power_new : Bool) (level_new : ℕ) (meter_new : Meter) → IsCutShort use_is.own.state (layer_outcome L e use_is.own.state) new
      → power_new ≡ false → meter_new.armed ≡ false → meter.armed ≡ true → Steps world e reply.Stopped (device.Off state) (held_by new power_new level_new meter_new)
  use_cut state new power_new level_new meter_new cut gone disarmed armed =
      outcome_cut r before running e old power level meter world use_is.sound use_is.own use_is.some state (layer_outcome L e use_is.own.state) new power_new level_new meter_new use_machine
      cut gone disarmed armed

-- a device that is not awake refuses it
pub use_asleep : (world : World) (e : Event) (refusal : Refusal) → IsLayerEvent e → running_state_in world ≡ Err refusal → Machine world e (refusal_reply refusal) world
use_asleep world e refusal is asleep =
    by_region world e (refusal_reply refusal) world is
    (subst (λ (on : Result (ℕ × State) Refusal). ◌≡◌ {A = Told} (refusal_reply refusal, world) (region_event world (region_named e) (layer_outcome (region_named e) e) on)) (sym asleep) refl)

-- ---- what is counted

picked_goes_on : (b : Bool) (x y : Outcome) → stop_told x.0 ≡ Ok tt → stop_told y.0 ≡ Ok tt → stop_told (if b then x else y).0 ≡ Ok tt
picked_goes_on true x y first second = first
picked_goes_on false x y first second = second

value_goes_on : (found : Option Secret) → stop_told (value_reply found) ≡ Ok tt
value_goes_on None = refl
value_goes_on (Some secret) = refl

put_goes_on : (L : ℕ) (name value : List ℕ) (state : State) → stop_told (put_event L name value state).0 ≡ Ok tt
unfolding put_event
put_goes_on L name value state =
    let region : Region = region_of state L in
    let new : Secret = record { name = name; value = value; born = number_of (entries_of state.log) } in
    picked_goes_on (not (list_any (has_name name) region.secrets) && nat_le 22 (length region.secrets)) (refusal_reply RegionFull, state)
    (reply.Kept, with_region state L (record region { secrets = with_secret new region.secrets })) refl refl

get_goes_on : (L : ℕ) (name : List ℕ) (state : State) → stop_told (get_event L name state).0 ≡ Ok tt
unfolding get_event
get_goes_on L name state = value_goes_on (find (has_name name) (region_of state L).secrets)

drop_goes_on : (L : ℕ) (name : List ℕ) (state : State) → stop_told (drop_event L name state).0 ≡ Ok tt
unfolding drop_event
drop_goes_on L name state =
    let region : Region = region_of state L in
    picked_goes_on (list_any (has_name name) region.secrets) (reply.Dropped, with_region state L (record region { secrets = filter (λ secret. not (has_name name secret)) region.secrets }))
    (reply.Absent, state) refl refl

sign_with_goes_on : (L : ℕ) (key : Option RegionKey) (message : List ℕ) (state : State) → stop_told (sign_with L key message state).0 ≡ Ok tt
sign_with_goes_on L None message state = refl
sign_with_goes_on L (Some key) message state =
    let region : Region = region_of state L in
    picked_goes_on (nat_le 32 key.uses) (refusal_reply KeySpent, state)
    (reply.Signed key.number key.uses (statement_format.spelling (statement_of state key message)), with_region state L (record region { keys = with_use key.number region.keys })) refl refl

sign_goes_on : (L number : ℕ) (message : List ℕ) (state : State) → stop_told (sign_event L number message state).0 ≡ Ok tt
unfolding sign_event
sign_goes_on L number message state = sign_with_goes_on L (find (has_number number) (region_of state L).keys) message state

pub outcome_goes_on : (L : ℕ) (e : Event) (state : State) → IsLayerEvent e → stop_told (layer_outcome L e state).0 ≡ Ok tt
outcome_goes_on L (event.Put M name value) state is = put_goes_on L name value state
outcome_goes_on L (event.Get M name) state is = get_goes_on L name state
outcome_goes_on L (event.Drop M name) state is = drop_goes_on L name state
outcome_goes_on L (event.Sign M key message) state is = sign_goes_on L key message state
outcome_goes_on L (event.Call M key input) state is = absurd is
outcome_goes_on L event.Boot state is = absurd is
outcome_goes_on L event.Off state is = absurd is
outcome_goes_on L event.Tamper state is = absurd is
outcome_goes_on L event.Status state is = absurd is
outcome_goes_on L event.Go state is = absurd is
outcome_goes_on L (event.Cut count tear) state is = absurd is
outcome_goes_on L (event.Order text draw) state is = absurd is

pub answer_goes_on : (L : ℕ) (e : Event) (state : State) (answer : Reply) (old new : Memory) → IsLayerEvent e → IsAnswered (layer_outcome L e state) answer old new → stop_told answer ≡ Ok tt
answer_goes_on L e state answer old new is (lacks wanted same) = ap stop_told wanted
answer_goes_on L e state answer old new is (tells told ready) = ap stop_told told ∙ outcome_goes_on L e state is

-- calls that were counted and ended well count as much for the answer
pub metered_by : {S E : Type 0} (n : ℕ) (told : S) (answer : Reply) (before after : Meter) → stop_told answer ≡ Ok tt → IsMetered n {A = S} {E = E} (Ok told) before after
    → IsMetered n {A = Unit {0}} {E = Unit {0}} (stop_told answer) before after
metered_by {S} {E} n told answer before after goes_on metered =
    subst (λ (x : Result (Unit {0}) (Unit {0})). IsMetered n {A = Unit {0}} {E = Unit {0}} x before after) (sym goes_on)
    (record { armed = metered.armed; stops = metered.stops; writes = metered.writes; cut = tt })

-- and none are counted where none were made
pub unmetered : (n : ℕ) (answer : Reply) (before after : Meter) → stop_told answer ≡ Ok tt → after ≡ before → IsMetered n {A = Unit {0}} {E = Unit {0}} (stop_told answer) before after
unmetered n answer before after goes_on same =
    subst (λ (x : Result (Unit {0}) (Unit {0})). IsMetered n {A = Unit {0}} {E = Unit {0}} x before after) (sym goes_on)
    (record { armed = ap (λ (m : Meter). m.armed) same; stops = ap (λ (m : Meter). m.stops) same; writes = omega (arith, ap (λ (m : Meter). m.writes) same); cut = tt })

-- ---- for the calls

-- power is on, and the level is that of the layer
pub running_on : (device : Device) (r : ℕ) (memory : Memory) (power : Bool) (level : ℕ) (meter : Meter) (world : World) → IsSoundDevice device (held_by memory power level meter) world
    → world.phase ≡ ratchet r → (power ≡ true) × (level ≡ r)
running_on device r memory power level meter world sound is = at_ratchet power level r (sym is ∙ sound.shown.phase)

pub is_up : (device : Device) (r : ℕ) (seen : Seen) (world : World) → IsSoundDevice device (held_in seen) world → world.phase ≡ ratchet r → IsUp r seen
is_up device r seen world sound is =
    let on = running_on device r seen.memory seen.power seen.level seen.meter world sound is in
    record { on = on.0; at_level = on.1; loaded = sound.shown.stands.sized }

-- the memory is ready with the state that is remembered
pub remembers : (device : Device) (r : ℕ) (seen : Seen) (running : Running) (world : World) → IsSoundDevice device (held_in seen) world → IsRunning r running seen.memory.flash world → IsRemembered running.known seen.memory
remembers device r seen running world sound own =
    record { state = own.state; ready = running_ready device r (held_in seen) world own.state sound own.phase own.live; knows = own.knows; codes = own.codes }

-- ---- the code of a layer

slot_by : (b : Bool) (two three : Slot) → CanBeNamed two → CanBeNamed three → CanBeNamed (if b then two else three)
slot_by true two three first second = first
slot_by false two three first second = second

-- the slot that is remembered for it is one that a header can name
pub slot_can_be : (known : Known) (memory : Memory) (layer : ℕ) (slot : Slot) → slot ≡ slot_known known layer → IsRemembered known memory → CanBeNamed slot
slot_can_be known memory layer slot same is = subst CanBeNamed (sym same) (slot_by (layer == 2) known.two known.three is.codes.two_named is.codes.three_named)

-- and the flash holds the code there
pub code_there : (known : Known) (flash : List ℕ) (state : State) (L layer : ℕ) (slot : Slot) → (L ≡ 2) ⊎ (L ≡ 3) → layer ≡ L → slot ≡ slot_known known layer → KnowsCode known flash state
    → HoldsCode flash layer slot (code_in state.codes L)
code_there known flash state L layer slot (inl two) same is codes =
    subst (λ n. HoldsCode flash n slot (code_in state.codes L)) (sym (same ∙ two))
    (subst (λ n. HoldsCode flash 2 slot (code_in state.codes n)) (sym two)
    (subst (λ (s : Slot). HoldsCode flash 2 s state.codes.two) (sym (is ∙ ap (slot_known known) (same ∙ two))) codes.two))
code_there known flash state L layer slot (inr three) same is codes =
    subst (λ n. HoldsCode flash n slot (code_in state.codes L)) (sym (same ∙ three))
    (subst (λ n. HoldsCode flash 3 slot (code_in state.codes n)) (sym three)
    (subst (λ (s : Slot). HoldsCode flash 3 s state.codes.three) (sym (is ∙ ap (slot_known known) (same ∙ three))) codes.three))

-- ---- the region that an event of a script names

upper_by : (b c : Bool) (region : ℕ) → (region == 2) ≡ b → (region == 3) ≡ c → IsTrue (b || c) → (region ≡ 2 → ⊥) → 3 ≡ region
upper_by true c region two three is apart = absurd (apart (eqb-true region 2 two))
upper_by false true region two three is apart = sym (eqb-true region 3 three)
upper_by false false region two three is apart = absurd (grind (arith, is))

upper_three : (region : ℕ) → IsTrue (is_upper region) → (region ≡ 2 → ⊥) → 3 ≡ region
upper_three region is apart = upper_by (region == 2) (region == 3) region refl refl is apart

-- one that is not region 2 is region 3
pub named_three : (e : Event) (region : ℕ) → IsLayerEvent e → IsScriptEvent e → region ≡ region_named e → (region ≡ 2 → ⊥) → 3 ≡ region_named e
named_three event.Boot region is script same apart = absurd is
named_three event.Off region is script same apart = absurd is
named_three event.Tamper region is script same apart = absurd is
named_three event.Status region is script same apart = absurd is
named_three event.Go region is script same apart = absurd is
named_three (event.Cut count tear) region is script same apart = absurd is
named_three (event.Order text draw) region is script same apart = absurd is
named_three (event.Put L name value) region is script same apart = upper_three L script.0 (λ e. apart (same ∙ e))
named_three (event.Get L name) region is script same apart = upper_three L script.0 (λ e. apart (same ∙ e))
named_three (event.Drop L name) region is script same apart = upper_three L script.0 (λ e. apart (same ∙ e))
named_three (event.Sign L key message) region is script same apart = upper_three L script.0 (λ e. apart (same ∙ e))
named_three (event.Call L key input) region is script same apart = absurd is
