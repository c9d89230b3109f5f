-- A call of a layer's code, as a step of the machine.
use Rattle.std.proofs.Common.{◌≡◌, ℕ, ◌≤◌, Bool, true, false, List, [], ◌∷◌, Option, None, Some, refl, sym, ap, subst, ◌∙◌, inl, inr, arith, eqb-true}
use Rattle.std.specs.Prelude.{◌==◌, ◌⊎◌, ◌||◌, Result, Ok, Err, IsTrue, IsSome, not, nat_lt, if◌then◌else◌}
use Rattle.std.proofs.lemmas.Bool.{le-ltb}
use Rattle.mb_ratchet.specs.declared.state.Off.{Off}
use Rattle.mb_board.specs.Calls.{Seen, held_in}
use Rattle.mb_device_orders.proofs.Spared.{same_flash_spared}
use Rattle.mb_device_orders.specs.declared.remembering.Known.{Known}
use Rattle.mb_device_orders.specs.declared.remembering.Running.{Running}
use Rattle.mb_device_orders.specs.declared.remembering.Trees.{Trees}
use Rattle.mb_device_orders.specs.Remembering.{Knows, KnowsCode}
use Rattle.mb_device_regions.specs.Calls.{CallComesTo, CallsIn, CallSigns, KeepsTreeOf, IsKeptForAny}
use Rattle.mb_device_regions.specs.Statements.{LeavesTree}
use Rattle.mb_lms.specs.declared.hash_count.TheConstants.{SIGNING_HASHES}
use Rattle.mb_model.specs.chains.Script.{IsScriptEvent, FitsInput}
use Rattle.mb_model.specs.declared.event.Event.{Event}
use Rattle.mb_model.specs.declared.event.Event.TheVariants as event
use Rattle.mb_model.specs.declared.region.RegionKey.{RegionKey}
use Rattle.mb_model.specs.declared.reply.Refusal.{Refusal}
use Rattle.mb_model.specs.declared.reply.Refusal.TheVariants.{WrongLayer}
use Rattle.mb_model.specs.declared.reply.Reply.{Reply}
use Rattle.mb_model.specs.declared.reply.Reply.TheVariants as reply
use Rattle.mb_model.specs.declared.state.State.{State}
use Rattle.mb_model.specs.machine.Actions.{Demand, to_keep, to_drop}
use Rattle.mb_model.specs.machine.Calls.{Call, WithCode, OnLayer, after_demands, answer_by, demand_outcome, refuses as is_refusal}
use Rattle.mb_model.specs.machine.LayerEvents.{Outcome, with_use, code_in}
use Rattle.mb_model.specs.machine.Machine.{World, CallTold, Machine, running_state_in}
use Rattle.mb_model.specs.machine.Refusals.{refusal_reply}
use Rattle.mb_model.specs.memories.Valid.{Valid, IsValidState}
use Rattle.mb_model.specs.outside.Board.{Held}
use Rattle.mb_model.specs.owners.Layers.{is_runnable, is_upper}
use Rattle.mb_model.specs.owners.Regions.{region_of, with_region}
use Rattle.mb_model_memory.specs.Holding.{IsReady}
use Rattle.mb_outbound.specs.declared.kept.RegionTree.{RegionTree}
use Rattle.mb_outbound.specs.KeptTrees.{IsKeptFor}
use Rattle.mb_device.specs.Calls.{Answers}
use Rattle.mb_device.specs.declared.device.Device.{Device}
use Rattle.mb_device.specs.declared.device.Device.TheVariants as device
use Rattle.mb_device.specs.KeptTrees.{TreesAreKept, trees_of}
use Rattle.mb_device.specs.Sound.{IsSoundDevice, HasSound, IsRunning, Fits, Steps}
use Rattle.mb_device.specs.Stepping.{stop_told}
use Rattle.std.proofs.lemmas.Option.{same_Some}
use Rattle.mb_model.specs.machine.LayerEvents.{put_event, drop_event}
use Rattle.mb_model_lemmas.proofs.CallLemmas.{on_layer_comes}
use Rattle.mb_outbound.proofs.Seeds.{use_keeps_seeds}
use Rattle.mb_device.specs.KeptTrees.{IsKeptToSign, IsKeptOnceSigned}
use Rattle.mb_device.proofs.Answered.{as_taken, uncut, stopped_by}
use Rattle.mb_device.proofs.Steps.{live_world, the_world, running_ready, refuses}
use Rattle.mb_device.proofs.Trees.{not_signed, trees_go, trees_held, tree_to_sign}
use Rattle.mb_device.proofs.Uses.{known_runs, cannot_run, knows_edited, codes_edited, put_keeps, drop_keeps, put_codes, drop_codes, is_up, metered_by, outcome_lacks, outcome_told, outcome_cut}

-- ---- what a call keeps

-- what puts, drops and uses of keys keep
record KeptByUses (P : State → Type 0) : Type 0 where
  puts : (L : ℕ) (name value : List ℕ) (state : State) → P state → P (put_event L name value state).1
  drops : (L : ℕ) (name : List ℕ) (state : State) → P state → P (drop_event L name state).1
  uses : (L number : ℕ) (state : State) → P state → P (with_region state L (record (region_of state L) { keys = with_use number (region_of state L).keys }))

demand_keeps : (P : State → Type 0) → KeptByUses P → (L : ℕ) (demand : Demand) (state : State) → P state → P (demand_outcome L demand state).1
demand_keeps P kept L (to_keep name value) state is = kept.puts L name value state is
demand_keeps P kept L (to_drop name) state is = kept.drops L name state is

unless_met : (b : Bool) (after : Option State) (done : State) → (if b then None else after) ≡ Some done → after ≡ Some done
unless_met true after done met = absurd (cc)
unless_met false after done met = met

demands_keep : (P : State → Type 0) → KeptByUses P → (L : ℕ) (demands : List Demand) (state done : State) → after_demands L demands state ≡ Some done → P state → P done
unfolding after_demands
demands_keep P kept L [] state done met is = subst P (same_Some state done met) is
demands_keep P kept L (demand ∷ later) state done met is =
    let outcome : Outcome = demand_outcome L demand state in
    demands_keep P kept L later outcome.1 done (unless_met (is_refusal outcome.0) (after_demands L later outcome.1) done met) (demand_keeps P kept L demand state is)

answer_keeps : (P : State → Type 0) → KeptByUses P → (L : ℕ) (key : Option RegionKey) (input answer : List ℕ) (before done : State) → P done → P (answer_by L key input answer before done).1
answer_keeps P kept L None input answer before done is = is
answer_keeps P kept L (Some key) input answer before done is = kept.uses L key.number done is

outcome_keeps : (P : State → Type 0) → KeptByUses P → (r : ℕ) (call : Call) (state : State) (outcome : Outcome) → OnLayer r call state outcome → P state → P outcome.1
outcome_keeps P kept r call state outcome on is = elim (on_layer_comes r call state outcome on) [
  | inl answers ↦ (
      let answered = answers.is in
      subst (λ (o : Outcome). P o.1) (sym answered.comes)
      (answer_keeps P kept call.layer answered.key call.input answered.action.answer state answered.done
      (demands_keep P kept call.layer answered.action.demands state answered.done answered.met is)))
  | inr refused ↦ subst P (sym refused.1) is
]

knows_kept : (known : Known) → KeptByUses (Knows known)
knows_kept known = record {
  puts = put_keeps known;
  drops = drop_keeps known;
  uses = λ L number state knows. knows_edited known L (record (region_of state L) { keys = with_use number (region_of state L).keys }) state (λ n. use_keeps_seeds number n (region_of state L).keys) knows;
}

codes_kept : (known : Known) (flash : List ℕ) → KeptByUses (KnowsCode known flash)
codes_kept known flash = record {
  puts = put_codes known flash;
  drops = drop_codes known flash;
  uses = λ L number state codes. codes_edited known flash L (record (region_of state L) { keys = with_use number (region_of state L).keys }) state codes;
}

-- a call is never answered by a stop
answer_goes_on : (L : ℕ) (key : Option RegionKey) (input answer : List ℕ) (before done : State) → stop_told (answer_by L key input answer before done).0 ≡ Ok tt
answer_goes_on L None input answer before done = refl
answer_goes_on L (Some key) input answer before done = refl

outcome_goes_on : (r : ℕ) (call : Call) (state : State) (outcome : Outcome) → OnLayer r call state outcome → stop_told outcome.0 ≡ Ok tt
outcome_goes_on r call state outcome on = elim (on_layer_comes r call state outcome on) [
  | inl answers ↦ (
      let answered = answers.is in
      ap (λ (o : Outcome). stop_told o.0) answered.comes ∙ answer_goes_on call.layer answered.key call.input answered.action.answer state answered.done)
  | inr refused ↦ ap stop_told refused.0.1
]

-- ---- what the machine makes of it

abbrev pub call_of : ℕ → Option ℕ → List ℕ → Call
call_of L key input = record { layer = L; key = key; input = input }

on_layer : (r : ℕ) (call : Call) (state : State) (outcome : Outcome) → r ≤ call.layer → is_runnable state.layers call.layer ≡ true → WithCode state call (code_in state.codes call.layer) outcome
    → OnLayer r call state outcome
on_layer r call state outcome here runs coded = inr (rw (le-ltb call.layer r here, runs) refl, coded)

call_machine : (r L : ℕ) (key : Option ℕ) (input : List ℕ) (state : State) (armed : Bool) (outcome : Outcome) → OnLayer r (call_of L key input) state outcome
    → Machine (live_world r state armed) (event.Call L key input) outcome.0 (live_world r outcome.1 armed)
call_machine r L key input state armed outcome on = (outcome, on, refl, refl)

call_barred : (r L : ℕ) (key : Option ℕ) (input : List ℕ) (state : State) (armed : Bool) → (nat_lt L r || not (is_runnable state.layers L)) ≡ true
    → Machine (live_world r state armed) (event.Call L key input) (refusal_reply WrongLayer) (live_world r state armed)
call_barred r L key input state armed past = ((refusal_reply WrongLayer, state), inl (past, refl), refl, refl)

-- a device that is not awake refuses it
pub call_asleep : (world : World) (L : ℕ) (key : Option ℕ) (input : List ℕ) (refusal : Refusal) → running_state_in world ≡ Err refusal → Machine world (event.Call L key input) (refusal_reply refusal) world
call_asleep world L key input refusal asleep = subst (λ (on : Result (ℕ × State) Refusal). CallTold world (call_of L key input) on (refusal_reply refusal) world) (sym asleep) (refl, refl)

-- and so does one in which control is past the layer, or in which the layer may not run
pub call_refused : (after : Device) (r L : ℕ) (running : Running) (held : Held) (world : World) (key : Option ℕ) (input : List ℕ) (answer : Reply) → answer ≡ refusal_reply WrongLayer
    → IsSoundDevice after held world → (own : IsRunning r running held.memory.flash world) → Fits after held.memory.flash world → (nat_lt L r ≡ true) ⊎ (is_runnable running.known.figures.layers L ≡ false)
    → Steps world (event.Call L key input) answer after held
call_refused after r L running held world key input answer told sound own fits why =
    let valid : IsValidState own.state = subst Valid own.live sound.valid in
    let state : State = own.state in
    let past : (nat_lt L r || not (is_runnable state.layers L)) ≡ true = elim why [
      | inl over ↦ rw over refl
      | inr still ↦ cannot_run (is_runnable state.layers L) (nat_lt L r) (known_runs running.known state L false own.knows valid still)
    ] in
    let same : world ≡ live_world r state world.armed = the_world world r state own.phase own.live in
    let machine : Machine world (event.Call L key input) (refusal_reply WrongLayer) world =
    subst (λ (w : World). Machine w (event.Call L key input) (refusal_reply WrongLayer) w) (sym same) (call_barred r L key input state world.armed past) in
    refuses after after held world (event.Call L key input) answer WrongLayer told machine sound fits

-- ---- a call in a device that may run the layer

-- a running device whose layer may run
pub record IsCall (r L : ℕ) (before : Device) (running : Running) : Type 0 where
  pub runs_in : (flash : List ℕ) (world : World) → Fits before flash world → IsRunning r running flash world
  pub here : r ≤ L
  pub some : 1 ≤ r
  pub runs : is_runnable running.known.figures.layers L ≡ true

module _ (r L : ℕ) (before : Device) (running : Running) (key : Option ℕ) (input : List ℕ) (old : Seen) (is : IsCall r L before running) where
  call_ready : (world : World) (sound : IsSoundDevice before (held_in old) world) → IsReady old.memory (is.runs_in old.memory.flash world sound.fits).state
  call_ready world sound =
      let own = is.runs_in old.memory.flash world sound.fits in
      running_ready before r (held_in old) world own.state sound own.phase own.live

  call_runs : (world : World) (sound : IsSoundDevice before (held_in old) world) → is_runnable (is.runs_in old.memory.flash world sound.fits).state.layers L ≡ true
  call_runs world sound =
      let own = is.runs_in old.memory.flash world sound.fits in
      known_runs running.known own.state L true own.knows (call_ready world sound).valid is.runs

  machine_so : (world : World) (sound : IsSoundDevice before (held_in old) world) (outcome : Outcome) → OnLayer r (call_of L key input) (is.runs_in old.memory.flash world sound.fits).state outcome
      → Machine world (event.Call L key input) outcome.0 (live_world r outcome.1 world.armed)
  machine_so world sound outcome on =
      let own = is.runs_in old.memory.flash world sound.fits in
      subst (λ (w : World). Machine w (event.Call L key input) outcome.0 (live_world r outcome.1 world.armed)) (sym (the_world world r own.state own.phase own.live))
      (call_machine r L key input own.state world.armed outcome on)

  on_so : (world : World) (sound : IsSoundDevice before (held_in old) world) (outcome : Outcome)
      → WithCode (is.runs_in old.memory.flash world sound.fits).state (call_of L key input) (code_in (is.runs_in old.memory.flash world sound.fits).state.codes L) outcome
      → OnLayer r (call_of L key input) (is.runs_in old.memory.flash world sound.fits).state outcome
  on_so world sound outcome coded = on_layer r (call_of L key input) (is.runs_in old.memory.flash world sound.fits).state outcome is.here (call_runs world sound) coded

  call_told : {S E : Type 0} (after : Device) (running_new : Running) (handed : S) (answer : Reply) (new : Seen) (world : World) → IsSoundDevice before (held_in old) world
      → CallsIn L key input running running_new {S = S} {E = E} (Ok (handed, answer)) old new → ((flash : List ℕ) (w : World) → IsRunning r running_new flash w → Fits after flash w)
      → Steps world (event.Call L key input) answer after (held_in new)
  call_told {S} {E} after running_new handed answer new world sound calls fits =
      by (calls.told own.state (call_ready world sound) (call_runs world sound) own.knows own.codes)
    where
      own : IsRunning r running old.memory.flash world
      own = is.runs_in old.memory.flash world sound.fits

      by : CallComesTo {S = S} {E = E} own.state (call_of L key input) old.memory new.memory (Ok (handed, answer)) → Steps world (event.Call L key input) answer after (held_in new)
      by (inl lacks) =
          let up = is_up before r old world sound own.phase in
          outcome_lacks r before running (event.Call L key input) old.memory old.power old.level old.meter world sound own is.some after running_new answer new.memory new.power new.level new.meter
          lacks.0 lacks.1 refl (calls.ran.ran.power ∙ sym up.on) calls.ran.ran.level calls.ran.ran.meter.armed (fits new.memory.flash)
          (calls.known own.state (call_ready world sound) own.knows) (calls.codes own.state own.codes)
      by (inr tells) =
          let up = is_up before r old world sound own.phase in
          let outcome : Outcome = tells.0 in
          let on = on_so world sound outcome tells.1 in
          outcome_told r before running (event.Call L key input) old.memory old.power old.level old.meter world sound own is.some after running_new answer outcome new.memory new.power new.level new.meter
          (machine_so world sound outcome on) tells.2 tells.3 (calls.ran.ran.power ∙ sym up.on) calls.ran.ran.level calls.ran.ran.meter.armed up.on up.at_level (fits new.memory.flash)
          (outcome_keeps (Knows running_new.known) (knows_kept running_new.known) r (call_of L key input) own.state outcome on (calls.known own.state (call_ready world sound) own.knows))
          (outcome_keeps (KnowsCode running_new.known new.memory.flash) (codes_kept running_new.known new.memory.flash) r (call_of L key input) own.state outcome on (calls.codes own.state own.codes))

  call_cut : {S : Type 0} (running_new : Running) (stop : Off) (new : Seen) (world : World) → IsSoundDevice before (held_in old) world
      → CallsIn L key input running running_new {S = S} {E = Off} (Err stop) old new → Steps world (event.Call L key input) reply.Stopped (device.Off stop) (held_in new)
  call_cut running_new stop new world sound calls =
      let own = is.runs_in old.memory.flash world sound.fits in
      let cut = calls.told own.state (call_ready world sound) (call_runs world sound) own.knows own.codes in
      outcome_cut r before running (event.Call L key input) old.memory old.power old.level old.meter world sound own is.some stop cut.0 new.memory new.power new.level new.meter
      (machine_so world sound cut.0 (on_so world sound cut.0 cut.1)) cut.2 calls.ran.ran.power calls.ran.ran.meter.armed calls.ran.ran.meter.cut

  call_goes_on : {S E : Type 0} (running_new : Running) (handed : S) (answer : Reply) (new : Seen) (world : World) → IsSoundDevice before (held_in old) world
      → CallsIn L key input running running_new {S = S} {E = E} (Ok (handed, answer)) old new → stop_told answer ≡ Ok tt
  call_goes_on {S} {E} running_new handed answer new world sound calls =
      by (calls.told own.state (call_ready world sound) (call_runs world sound) own.knows own.codes)
    where
      own : IsRunning r running old.memory.flash world
      own = is.runs_in old.memory.flash world sound.fits

      by : CallComesTo {S = S} {E = E} own.state (call_of L key input) old.memory new.memory (Ok (handed, answer)) → stop_told answer ≡ Ok tt
      by (inl lacks) = ap stop_told lacks.0
      by (inr tells) = ap stop_told tells.2 ∙ outcome_goes_on r (call_of L key input) own.state tells.0 (on_so world sound tells.0 tells.1)

-- ---- the trees

signed_so : {S : Type 0} (E : Type 0) (L : ℕ) (key : Option ℕ) (input : List ℕ) (handed : S) (answer : Reply) (after : Trees) → KeepsTreeOf {S = S} {E = E} (Ok (handed, answer)) after.region L key
    → IsKeptOnceSigned (Some after) L (event.Call L key input) answer
signed_so E L None input handed answer after keeps = tt
signed_so E L (Some number) input handed answer after keeps = keeps

trees_called : {S : Type 0} (E : Type 0) (L : ℕ) (key : Option ℕ) (input : List ℕ) (handed : S) (answer : Reply) (before after : Trees) → KeepsTreeOf {S = S} {E = E} (Ok (handed, answer)) after.region L key
    → LeavesTree {S = S} {E = E} (Ok (handed, answer)) before.region after.region → after.device ≡ before.device → TreesAreKept L (event.Call L key input) answer (Some before) (Some after)
trees_called {S} E L key input handed answer before after keeps leaves same = record {
  signed = signed_so E L key input handed answer after keeps;
  region = λ left place number own. subst (λ (kept : Option RegionTree). IsKeptFor kept place number) (sym (leaves (not_signed answer left))) own;
  device = λ left has. subst IsSome (sym same) has;
}

kept_so : (L : ℕ) (key : Option ℕ) (input : List ℕ) (trees : Trees) → IsKeptToSign (Some trees) L (event.Call L key input) → IsKeptForAny trees.region L key
kept_so L None input trees own = tt
kept_so L (Some number) input trees own = own

-- ---- the whole

pub called : {S E : Type 0} (r L : ℕ) (before after : Device) (running running_new : Running) (key : Option ℕ) (input : List ℕ) (handed : S) (answer : Reply) (old new : Seen) (hashes hashes_new : ℕ)
    → IsCall r L before running → ((flash : List ℕ) (w : World) → IsRunning r running_new flash w → Fits after flash w) → trees_of before ≡ Some running.known.trees.value → trees_of after ≡ Some running_new.known.trees.value
    → HasSound before (held_in old) → CallsIn L key input running running_new {S = S} {E = E} (Ok (handed, answer)) old new
    → CallSigns L key running.known.trees.value running_new.known.trees.value {S = S} {E = E} (Ok (handed, answer)) hashes hashes_new
    → Answers 3 SIGNING_HASHES before (event.Call L key input) (after, answer) old new hashes hashes_new
called {S} {E} r L before after running running_new key input handed answer old new hashes hashes_new is fits was are has calls signs = record {
  steps = as_taken (event.Call L key input) (λ held. refl) (λ world sound. call_told r L before running key input old is {S = S} {E = E} after running_new handed answer new world sound calls fits);
  untold = λ unwritten. calls.writes (uncut answer unwritten);
  quiet = tt;
  spared = same_flash_spared _ _ calls.ran.flash;
  events = record {
    ledger = calls.ran.ran.ledger;
    meter = metered_by 3 (handed, answer) answer old.meter new.meter (call_goes_on r L before running key input old is {S = S} {E = E} running_new handed answer new has.world has.sound calls) calls.ran.ran.meter;
  };
  trees = trees_held L (event.Call L key input) answer before after (Some running.known.trees.value) (Some running_new.known.trees.value) refl was are
      (trees_called E L key input handed answer running.known.trees.value running_new.known.trees.value signs.keeps signs.stays signs.device);
  done = tt;
  order = λ earlier world keys sound same makes. absurd makes;
  cost = signs.cost;
  again = λ own. signs.again (kept_so L key input running.known.trees.value (tree_to_sign L (event.Call L key input) before (Some running.known.trees.value) refl was own));
}

pub call_stopped : {S : Type 0} (r L : ℕ) (before : Device) (running running_new : Running) (key : Option ℕ) (input : List ℕ) (stop : Off) (old new : Seen) (hashes hashes_new : ℕ)
    → IsCall r L before running → trees_of before ≡ Some running.known.trees.value → CallsIn L key input running running_new {S = S} {E = Off} (Err stop) old new
    → CallSigns L key running.known.trees.value running_new.known.trees.value {S = S} {E = Off} (Err stop) hashes hashes_new
    → Answers 3 SIGNING_HASHES before (event.Call L key input) (device.Off stop, reply.Stopped) old new hashes hashes_new
call_stopped {S} r L before running running_new key input stop old new hashes hashes_new is was calls signs = record {
  steps = as_taken (event.Call L key input) (λ held. refl) (λ world sound. call_cut r L before running key input old is {S = S} running_new stop new world sound calls);
  untold = λ unwritten. absurd (cc);
  quiet = tt;
  spared = same_flash_spared _ _ calls.ran.flash;
  events = record { ledger = calls.ran.ran.ledger; meter = stopped_by 3 stop _ _ calls.ran.ran.meter };
  trees = trees_go L (event.Call L key input) reply.Stopped (trees_of before) None refl refl refl;
  done = tt;
  order = λ earlier world keys sound same makes. absurd makes;
  cost = signs.cost;
  again = λ own. signs.again (kept_so L key input running.known.trees.value (tree_to_sign L (event.Call L key input) before (Some running.known.trees.value) refl was own));
}

-- ---- the layer that is named

upper_by : (b c : Bool) (layer : ℕ) → (layer == 2) ≡ b → (layer == 3) ≡ c → IsTrue (b || c) → (layer ≡ 2 → ⊥) → layer ≡ 3
upper_by true c layer two three is apart = absurd (apart (eqb-true layer 2 two))
upper_by false true layer two three is apart = eqb-true layer 3 three
upper_by false false layer two three is apart = absurd (grind (arith, is))

-- one that is not layer 2 is layer 3
pub is_three : (layer : ℕ) → IsTrue (is_upper layer) → (layer ≡ 2 → ⊥) → layer ≡ 3
is_three layer is apart = upper_by (layer == 2) (layer == 3) layer refl refl is apart

-- what is answered of that layer is what is answered of the call
pub call_at : {n limit : ℕ} {before own : Device} {L layer : ℕ} {key : Option ℕ} {input : List ℕ} {told : Device × Reply} {old new : Seen} {hashes hashes_new : ℕ} → before ≡ own → layer ≡ L
    → Answers n limit own (event.Call L key input) told old new hashes hashes_new → Answers n limit before (event.Call layer key input) told old new hashes hashes_new
call_at {n} {limit} {before} {own} {L} {layer} {key} {input} {told} {old} {new} {hashes} {hashes_new} same is answers =
    subst (λ (d : Device). Answers n limit d (event.Call layer key input) told old new hashes hashes_new) (sym same)
    (subst (λ m. Answers n limit own (event.Call m key input) told old new hashes hashes_new) (sym is) answers)

-- what a script's call is
pub call_fits : (e : Event) (layer : ℕ) (key : Option ℕ) (input : List ℕ) → e ≡ event.Call layer key input → IsScriptEvent e → IsTrue (is_upper layer) × FitsInput input
call_fits e layer key input is script =
    let own : IsScriptEvent (event.Call layer key input) = subst IsScriptEvent is script in
    (own.0, own.2)
