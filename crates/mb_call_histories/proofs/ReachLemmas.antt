-- Where a call leads, puts, drops, a signature and power lead too, in a device without code.
use Rattle.std.proofs.Common.{◌≡◌, ℕ, ◌==◌, List, [], ◌∷◌, ◌++◌, inl, inr, Option, None, Some, Bool, true, false, refl, sym, ap, ◌∙◌, subst, arith}
use Rattle.std.specs.Prelude.{Ok, not, nat_lt, nat_le, ◌||◌, find, IsTrue, option_map, if◌then◌else◌}
use Rattle.std.specs.List.{list_any}
use Rattle.mb_model.specs.declared.event.Answered.{Answered}
use Rattle.mb_model.specs.declared.event.Event.{Event}
use Rattle.mb_model.specs.declared.event.Event.TheVariants as event
use Rattle.mb_model.specs.declared.region.RegionKey.{RegionKey}
use Rattle.mb_model.specs.declared.reply.Refusal.TheVariants.{WrongLayer, WrongCode}
use Rattle.mb_model.specs.declared.reply.Reply.{Reply}
use Rattle.mb_model.specs.declared.reply.Reply.TheVariants as reply
use Rattle.mb_model.specs.declared.state.State.{State}
use Rattle.mb_model.specs.machine.Actions.{Demand, to_keep, to_drop}
use Rattle.mb_model.specs.machine.Calls.{Call, refuses, key_for, demand_outcome, after_demands, answer_by}
use Rattle.mb_model.specs.machine.LayerEvents.{Outcome, takes_calls, has_name, has_number, with_use, is_full_for, put_event, drop_event, sign_with, sign_event, statement_of}
use Rattle.mb_model.specs.machine.Machine.{Phase, off, ratchet, World, Told, running_state_in, region_event, Step, machine_step, lacks_memory, loses_power, LosesPower, may_be_cut, Run}
use Rattle.mb_model.specs.machine.Refusals.{refusal_reply}
use Rattle.mb_model.specs.owners.Layers.{is_runnable, Runnable}
use Rattle.mb_model.specs.owners.Regions.{region_of, with_region}
use Rattle.mb_model_lemmas.proofs.DemandLemmas.{Spares, nothing_spares, demand_spares, key_asked}
use Rattle.mb_model_lemmas.proofs.OutputLemmas.{outputs_are_bytes}
use Rattle.mb_model_histories.proofs.HistoryLemmas.{run_on}
use Rattle.mb_call_histories.specs.CallChangeLaws.{without_codes, CallsReachNothingNew, OutputsAreBytes}
use Rattle.mb_call_histories.proofs.AnswerLemmas.{CallComes, comes_to_answer, comes_to_nothing, told_comes}

-- ---- a state without code

abbrev bare : State → State
bare state = record state { codes = record { one = None; two = None; three = None } }

abbrev bare_outcome : Outcome → Outcome
bare_outcome outcome = (outcome.0, bare outcome.1)

bare_if : (b : Bool) (x y : Outcome) → (if b then bare_outcome x else bare_outcome y) ≡ bare_outcome (if b then x else y)
bare_if true x y = refl
bare_if false x y = refl

demand_bare : (layer : ℕ) (demand : Demand) (state : State) → demand_outcome layer demand (bare state) ≡ bare_outcome (demand_outcome layer demand state)
unfolding put_event drop_event
demand_bare layer (to_keep name value) state = bare_if (is_full_for name (region_of state layer)) _ _
demand_bare layer (to_drop name) state = bare_if (list_any (has_name name) (region_of state layer).secrets) _ _

sign_with_bare : (layer : ℕ) (found : Option RegionKey) (message : List ℕ) (state : State) → sign_with layer found message (bare state) ≡ bare_outcome (sign_with layer found message state)
unfolding statement_of
sign_with_bare layer None message state = refl
sign_with_bare layer (Some key) message state = bare_if (nat_le 32 key.uses) _ _

sign_bare : (layer number : ℕ) (message : List ℕ) (state : State) → sign_event layer number message (bare state) ≡ bare_outcome (sign_event layer number message state)
unfolding sign_event
sign_bare layer number message state = sign_with_bare layer (find (has_number number) (region_of state layer).keys) message state

-- ---- events of its regions

-- a live device without code, while a layer is in control
world_at : ℕ → Bool → State → World
world_at level armed state = record { state = Some (bare state); phase = ratchet level; armed = armed }

-- the event that does what a demand asks for
asks : ℕ → Demand → Event
asks layer (to_keep name value) = event.Put layer name value
asks layer (to_drop name) = event.Drop layer name

allowed : (past runs second : Bool) (outcome one other : Outcome) → past ≡ false → runs ≡ true
    → (if past || not runs then one else if takes_calls (if second then None else None) then other else outcome) ≡ outcome
allowed true runs second outcome one other e f = absurd (grind (arith, e))
allowed false true true outcome one other e f = refl
allowed false true false outcome one other e f = refl
allowed false false second outcome one other e f = absurd (grind (arith, f))

region_told : (level layer : ℕ) (armed : Bool) (does : State → Outcome) (state : State) (outcome : Outcome) → nat_lt layer level ≡ false → Runnable state.layers layer
    → does (bare state) ≡ bare_outcome outcome
    → ◌≡◌ {A = Told} (outcome.0, world_at level armed outcome.1) (region_event (world_at level armed state) layer does (running_state_in (world_at level armed state)))
unfolding world_at
region_told level layer armed does state outcome below runs same =
    let told : Outcome → Told = λ o. (o.0, record { state = Some o.1; phase = ratchet level; armed = armed }) in
    ap told (sym same) ∙ ap told (sym (allowed (nat_lt layer level) (is_runnable state.layers layer) (layer == 2) (does (bare state)) (refusal_reply WrongLayer, bare state) (refusal_reply WrongCode, bare state) below runs))

demand_steps : (level layer : ℕ) (armed : Bool) (demand : Demand) (state : State) → nat_lt layer level ≡ false → Runnable state.layers layer
    → Step (world_at level armed state) (asks layer demand) (demand_outcome layer demand state).0 (world_at level armed (demand_outcome layer demand state).1)
unfolding asks
demand_steps level layer armed (to_keep name value) state below runs =
    machine_step (region_told level layer armed (put_event layer name value) state (put_event layer name value state) below runs (demand_bare layer (to_keep name value) state))
demand_steps level layer armed (to_drop name) state below runs =
    machine_step (region_told level layer armed (drop_event layer name) state (drop_event layer name state) below runs (demand_bare layer (to_drop name) state))

-- demands that were met
record Reaches (level layer : ℕ) (armed : Bool) (before after : State) : Type 0 where
  answered : List Answered
  run : Run (world_at level armed before) answered (world_at level armed after)
  spares : Spares layer before after

same_some : (a b : State) → Some a ≡ Some b → a ≡ b
same_some a b e = cc

not_refused : (b : Bool) (onwards : Option State) (done : State) → (if b then None else onwards) ≡ Some done → onwards ≡ Some done
not_refused true onwards done e = absurd (grind (arith, e))
not_refused false onwards done e = e

demands_reach : (level layer : ℕ) (armed : Bool) (demands : List Demand) (state done : State) → nat_lt layer level ≡ false → Runnable state.layers layer
    → after_demands layer demands state ≡ Some done → Reaches level layer armed state done
unfolding after_demands
demands_reach level layer armed [] state done below runs met =
    let same : state ≡ done = same_some state done met in
    record { answered = []; run = ap (world_at level armed) (sym same); spares = subst (Spares layer state) same (nothing_spares layer state) }
demands_reach level layer armed (demand ∷ later) state done below runs met =
    let outcome : Outcome = demand_outcome layer demand state in
    let spared : Spares layer state outcome.1 = demand_spares layer demand state in
    let onwards = demands_reach level layer armed later outcome.1 done below (subst (λ l. Runnable l layer) (sym spared.layers) runs)
    (not_refused (refuses outcome.0) (after_demands layer later outcome.1) done met) in
    record {
      answered = record { event = asks layer demand; reply = outcome.0 } ∷ onwards.answered;
      run = (world_at level armed outcome.1, demand_steps level layer armed demand state below runs, onwards.run);
      spares = record {
        layers = onwards.spares.layers ∙ spared.layers;
        keys = onwards.spares.keys ∙ spared.keys;
        others = λ other apart. onwards.spares.others other apart ∙ spared.others other apart;
      };
    }

-- ---- the key

abbrev used : ℕ → State → ℕ → State
used layer state number = with_region state layer (record (region_of state layer) { keys = with_use number (region_of state layer).keys })

last_of : (b : Bool) → b ≡ false → (x y : Outcome) → (if b then x else y).1 ≡ y.1
last_of true e x y = absurd (grind (arith, e))
last_of false e x y = refl

signs_so : (layer : ℕ) (found : Option RegionKey) (key : RegionKey) (state : State) → found ≡ Some key → nat_le 32 key.uses ≡ false → (sign_with layer found [] state).1 ≡ used layer state key.number
signs_so layer None key state is left = absurd (grind (arith, is))
signs_so layer (Some other) key state is left =
    let same : other ≡ key = same_key other key is in
    last_of (nat_le 32 other.uses) (ap (λ (k : RegionKey). nat_le 32 k.uses) same ∙ left) _ _ ∙ ap (λ (k : RegionKey). used layer state k.number) same
  where
    same_key : (a b : RegionKey) → Some a ≡ Some b → a ≡ b
    same_key a b e = cc

-- one use of the key, as by a signature of no bytes
use_reached : (level layer number : ℕ) (armed : Bool) (key : RegionKey) (state : State) → nat_lt layer level ≡ false → Runnable state.layers layer
    → find (has_number number) (region_of state layer).keys ≡ Some key → nat_le 32 key.uses ≡ false
    → Step (world_at level armed state) (event.Sign layer number []) (sign_event layer number [] state).0 (world_at level armed (used layer state key.number))
unfolding sign_event
use_reached level layer number armed key state below runs found left =
    subst (λ (s : State). Step (world_at level armed state) (event.Sign layer number []) (sign_event layer number [] state).0 (world_at level armed s))
    (signs_so layer (find (has_number number) (region_of state layer).keys) key state found left)
    (machine_step (region_told level layer armed (sign_event layer number []) state (sign_event layer number [] state) below runs (sign_bare layer number [] state)))

-- ---- an answered call

answer_reached : (level : ℕ) (armed : Bool) (call : Call) (state : State) (outcome : Outcome) (key : Option RegionKey) → nat_lt call.layer level ≡ false → Runnable state.layers call.layer
    → key_for call.key (region_of state call.layer) ≡ Ok key → (answer : List ℕ) (done : State) → Reaches level call.layer armed state done
    → outcome ≡ answer_by call.layer key call.input answer state done → (answered : List Answered) × Run (world_at level armed state) answered (world_at level armed outcome.1)
answer_reached level armed call state outcome None below runs found answer done reached is =
    (reached.answered, subst (λ (s : State). Run (world_at level armed state) reached.answered (world_at level armed s)) (sym (ap (λ (o : Outcome). o.1) is)) reached.run)
answer_reached level armed call state outcome (Some key) below runs found answer done reached is =
    let asked = key_asked call.key (region_of state call.layer) key found in
    let there : find (has_number asked.number) (region_of done call.layer).keys ≡ Some key = ap (find (has_number asked.number)) reached.spares.keys ∙ asked.found in
    let step = use_reached level call.layer asked.number armed key done below (subst (λ l. Runnable l call.layer) (sym reached.spares.layers) runs) there asked.left in
    let last : Answered = record { event = event.Sign call.layer asked.number []; reply = (sign_event call.layer asked.number [] done).0 } in
    let run = run_on (world_at level armed state) (world_at level armed done) (world_at level armed (used call.layer done key.number)) reached.answered (last ∷ []) reached.run
    (world_at level armed (used call.layer done key.number), step, refl) in
    (reached.answered ++ last ∷ [], subst (λ (s : State). Run (world_at level armed state) (reached.answered ++ last ∷ []) (world_at level armed s)) (sym (ap (λ (o : Outcome). o.1) is)) run)

world_is : (here : World) (state : State) (level : ℕ) → here.state ≡ Some state → here.phase ≡ ratchet level → world_at level here.armed state ≡ without_codes here
unfolding world_at
world_is here state level is at =
    ap (λ (o : Option State). record { state = option_map bare o; phase = ratchet level; armed = here.armed }) (sym is)
    ∙ ap (λ (p : Phase). record { state = option_map bare here.state; phase = p; armed = here.armed }) (sym at)

comes_reached : (here next : World) (call : Call) (answer : Reply) → CallComes here call answer next → (answered : List Answered) × Run (without_codes here) answered (without_codes next)
comes_reached here next call answer (comes_to_answer level state outcome was running at answered follows) =
    let reached = answer_reached level here.armed call state outcome at.is.key at.in_control at.runs at.is.found at.is.action.answer at.is.done
    (demands_reach level call.layer here.armed at.is.action.demands state at.is.done at.in_control at.runs at.is.met) at.is.comes in
    let there : world_at level here.armed outcome.1 ≡ without_codes next =
    world_is (record here { state = Some outcome.1 }) outcome.1 level refl running ∙ ap without_codes (sym follows) in (
      reached.0,
      subst (λ (w : World). Run w reached.0 (without_codes next)) (world_is here state level was running)
          (subst (λ (w : World). Run (world_at level here.armed state) reached.0 w) there reached.1),
    )
comes_reached here next call answer (comes_to_nothing number refused same) = ([], ap without_codes same)

-- ---- power

-- power goes off, and fails at the next boot, if a power loss is armed
lost_from : (live : State) (phase : Phase) → (answered : List Answered) × Run (record { state = Some live; phase = phase; armed = true }) answered (record { state = Some live; phase = off; armed = false })
lost_from live phase =
    let dark : World = record { state = Some live; phase = off; armed = true } in
    let out : World = record { state = Some live; phase = off; armed = false } in
    let lost : Step dark event.Boot reply.Stopped out = loses_power (record {
      told = reply.Booted;
      whole = record dark { phase = ratchet 1 };
      machine = refl;
      armed = refl;
      writes = refl;
      state = Some live;
      counts = inl refl;
      answered = refl;
      follows = refl;
    }) in (
      record { event = event.Off; reply = reply.Off } ∷ record { event = event.Boot; reply = reply.Stopped } ∷ [],
      (dark, machine_step (refl, refl), (out, lost, refl)),
    )

lost_by : (here next : World) (live : State) → here.state ≡ Some live → here.armed ≡ true → next ≡ record { state = Some live; phase = off; armed = false }
    → (answered : List Answered) × Run (without_codes here) answered (without_codes next)
lost_by here next live is armed follows =
    let lost = lost_from (bare live) here.phase in
    let from : record { state = Some (bare live); phase = here.phase; armed = true } ≡ without_codes here =
    ap (λ (o : Option State). record { state = option_map bare o; phase = here.phase; armed = true }) (sym is)
    ∙ ap (λ (b : Bool). record { state = option_map bare here.state; phase = here.phase; armed = b }) (sym armed) in (
      lost.0,
      subst (λ (w : World). Run w lost.0 (without_codes next)) from
          (subst (λ (w : World). Run (record { state = Some (bare live); phase = here.phase; armed = true }) lost.0 w) (ap without_codes (sym follows)) lost.1),
    )

-- the device is alive before and after
record IsLive (here whole : World) : Type 0 where
  live : State
  was : here.state ≡ Some live
  after : State
  is : whole.state ≡ Some after
  armed : whole.armed ≡ here.armed

live_before : (here whole : World) (call : Call) (told : Reply) → CallComes here call told whole → IsTrue (may_be_cut told) → IsLive here whole
live_before here whole call told (comes_to_answer level state outcome was running at answered follows) writes = record {
  live = state;
  was = was;
  after = outcome.1;
  is = ap (λ (w : World). w.state) follows;
  armed = ap (λ (w : World). w.armed) follows;
}
live_before here whole call told (comes_to_nothing number refused same) writes =
    let none : may_be_cut told ≡ false = ap may_be_cut refused in
    absurd (grind (arith, none, writes))

cut_reached : (here next : World) (layer : ℕ) (key : Option ℕ) (input : List ℕ) (answer : Reply) → LosesPower here (event.Call layer key input) answer next
    → (answered : List Answered) × Run (without_codes here) answered (without_codes next)
cut_reached here next layer key input answer p =
    let call : Call = record { layer = layer; key = key; input = input } in
    let comes = told_comes here call (running_state_in here) p.told p.whole refl p.machine in
    let live = live_before here p.whole call p.told comes p.writes in
    let out : Option State → World = λ o. record { state = o; phase = off; armed = false } in
    elim (p.counts) [
      | inl before ↦ lost_by here next live.live live.was p.armed (p.follows ∙ ap out (before ∙ live.was))
      | inr after ↦
          let whole = comes_reached here p.whole call p.told comes in
          let rest = lost_by p.whole next live.after live.is (live.armed ∙ p.armed) (p.follows ∙ ap out (after ∙ live.is)) in
          (whole.0 ++ rest.0, run_on (without_codes here) (without_codes p.whole) (without_codes next) whole.0 rest.0 whole.1 rest.1)
    ]

pub calls_reach_nothing_new : CallsReachNothingNew
calls_reach_nothing_new here next layer key input answer (machine_step told) =
    comes_reached here next (record { layer = layer; key = key; input = input }) answer (told_comes here _ (running_state_in here) answer next refl told)
calls_reach_nothing_new here next layer key input answer (lacks_memory p) = ([], ap without_codes p.stays)
calls_reach_nothing_new here next layer key input answer (loses_power p) = cut_reached here next layer key input answer p

pub outputs : OutputsAreBytes
outputs = outputs_are_bytes
