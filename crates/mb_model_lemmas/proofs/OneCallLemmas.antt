-- A call comes to one outcome.
use Rattle.std.proofs.Common.{◌≡◌, ◌⊎◌, ℕ, List, [], ◌∷◌, inl, inr, Option, None, Some, Bool, true, false, refl, sym, ap, ◌∙◌, subst, arith}
use Rattle.std.specs.Prelude.{Result, Ok, Err, not, nat_lt, ◌||◌}
use Rattle.mb_format.specs.Format.{IsBytes, Spells}
use Rattle.mb_format.specs.Reading.{IsExact}
use Rattle.mb_format.proofs.Rules.{exactly}
use Rattle.mb_format.proofs.Whole.{IsClearWhole-from_exact}
use Rattle.mb_model.specs.declared.region.RegionKey.{RegionKey}
use Rattle.mb_model.specs.declared.reply.Refusal.{Refusal}
use Rattle.mb_model.specs.declared.state.State.{State}
use Rattle.mb_model.specs.machine.Machine.{World, CallTold}
use Rattle.mb_model.specs.owners.Layers.{is_runnable}
use Rattle.mb_model.specs.owners.Regions.{region_of}
use Rattle.mb_model.specs.declared.running.AppEnd.{AppEnd}
use Rattle.mb_model.specs.declared.running.AppEnd.TheVariants as end
use Rattle.mb_model.specs.application.Runs.{AppRun, readable_secrets}
use Rattle.mb_model_lemmas.proofs.Determined.{runs_end_once}
use Rattle.mb_model.specs.machine.Actions.{Demand, to_keep, to_drop, is_to_keep, dropped_in, kept_in, Action, name_format, value_format, demand_by, demand_format, action_format, begins_with_call_word}
use Rattle.mb_model.specs.declared.limits.TheConstants.{CALL_STEPS}
use Rattle.mb_model.specs.declared.reply.Reply.{Reply}
use Rattle.mb_model.specs.machine.LayerEvents.{Outcome, code_in}
use Rattle.mb_model.specs.machine.Calls.{Call, key_for, act_on, after_demands, Acts, does_act, asks_nothing, EndsIn, RunsIn, WithKey, WithCode, OnLayer}
use Rattle.mb_model_lemmas.proofs.EndLemmas.{each_run_ends}
use Rattle.mb_model_lemmas.proofs.OutputLemmas.{outputs_are_bytes}

-- ---- actions are read exactly

pub name_exact : IsExact name_format
unfolding name_format
name_exact = search (exactly) depth 20

pub value_exact : IsExact value_format
unfolding value_format
value_exact = search (exactly) depth 20

abbrev keep_from : List ℕ × List ℕ → Demand
keep_from (name, value) = to_keep name value

keep_only : (demand : Demand) (parts : List ℕ × List ℕ) → kept_in demand ≡ Some parts → keep_from parts ≡ demand
keep_only (to_keep name value) parts taken = grind arith
keep_only (to_drop name) parts taken = grind arith

drop_only : (demand : Demand) (name : List ℕ) → dropped_in demand ≡ Some name → to_drop name ≡ demand
drop_only (to_keep other value) name taken = grind arith
drop_only (to_drop other) name taken = grind arith

demand_by-exact : (kept : Bool) → IsExact (demand_by kept)
demand_by-exact false = search (exactly, name_exact, drop_only) depth 20
demand_by-exact true = search (exactly, name_exact, value_exact, keep_only) depth 20

demand_keyed : (kept : Bool) (demand : Demand) → (demand_by kept).Allowed demand → is_to_keep demand ≡ kept
demand_keyed false (to_keep name value) allowed = absurd allowed
demand_keyed false (to_drop name) allowed = refl
demand_keyed true (to_keep name value) allowed = refl
demand_keyed true (to_drop name) allowed = absurd allowed

pub demand_exact : IsExact demand_format
unfolding demand_format
demand_exact = search (exactly, demand_by-exact, demand_keyed) depth 20

pub action_exact : IsExact action_format
unfolding action_format
action_exact = search (exactly, demand_exact) depth 20

one_action : (output : List ℕ) (a b : Action) → IsBytes output → Spells action_format output a → Spells action_format output b → a ≡ b
one_action output a b are is_a is_b = (IsClearWhole-from_exact action_exact).one_value output a b are is_a is_b

-- ---- one outcome

acts_one : (state : State) (layer : ℕ) (key : Option RegionKey) (input output : List ℕ) (o p : Outcome) → IsBytes output → Acts state layer key input output o → Acts state layer key input output p → o ≡ p
acts_one state layer key input output o p are (does_act a is_a e) (does_act b is_b f) =
    e ∙ ap (λ (x : Action). act_on layer key input x.answer state (after_demands layer x.demands state)) (one_action output a b are is_a is_b) ∙ sym f
acts_one state layer key input output o p are (does_act a is_a e) (asks_nothing none f) = absurd (none a is_a)
acts_one state layer key input output o p are (asks_nothing none e) (does_act b is_b f) = absurd (none b is_b)
acts_one state layer key input output o p are (asks_nothing none e) (asks_nothing other f) = e ∙ sym f

ends_one : (state : State) (call : Call) (key : Option RegionKey) (code : List ℕ) (o p : Outcome) → (ending : AppEnd)
    → AppRun code call.input (readable_secrets state.layers call.layer state.two state.three) CALL_STEPS ending
    → EndsIn state call.layer key call.input ending o → EndsIn state call.layer key call.input ending p → o ≡ p
ends_one state call key code o p (end.Halted steps output) run is_o is_p =
    acts_one state call.layer key call.input output o p (outputs_are_bytes code call.input (readable_secrets state.layers call.layer state.two state.three) CALL_STEPS steps output run) is_o is_p
ends_one state call key code o p (end.Trap cause place output) run is_o is_p = is_o ∙ sym is_p
ends_one state call key code o p (end.OutOfSteps output) run is_o is_p = is_o ∙ sym is_p

runs_one : (state : State) (call : Call) (key : Option RegionKey) (code : List ℕ) (o p : Outcome) → RunsIn state call key code o → RunsIn state call key code p → o ≡ p
runs_one state call key code o p is_o is_p =
    let same : is_p.ending ≡ is_o.ending =
    runs_end_once code call.input (readable_secrets state.layers call.layer state.two state.three) CALL_STEPS is_p.ending is_o.ending is_p.run is_o.run in
    ends_one state call key code o p is_o.ending is_o.run is_o.ends (subst (λ (e : AppEnd). EndsIn state call.layer key call.input e p) same is_p.ends)

keyed_one : (state : State) (call : Call) (code : List ℕ) (key : Result (Option RegionKey) Refusal) (o p : Outcome) → WithKey state call code key o → WithKey state call code key p → o ≡ p
keyed_one state call code (Err refusal) o p is_o is_p = is_o ∙ sym is_p
keyed_one state call code (Ok key) o p is_o is_p = runs_one state call key code o p is_o is_p

not_both : (b : Bool) → b ≡ true → b ≡ false → ⊥
not_both b e f = grind (arith, e, f)

coded_one : (state : State) (call : Call) (code : Option (List ℕ)) (o p : Outcome) → WithCode state call code o → WithCode state call code p → o ≡ p
coded_one state call None o p is_o is_p = is_o ∙ sym is_p
coded_one state call (Some code) o p (inl is_o) (inl is_p) = is_o.1 ∙ sym is_p.1
coded_one state call (Some code) o p (inl is_o) (inr is_p) = absurd (not_both (begins_with_call_word code) is_p.0 is_o.0)
coded_one state call (Some code) o p (inr is_o) (inl is_p) = absurd (not_both (begins_with_call_word code) is_o.0 is_p.0)
coded_one state call (Some code) o p (inr is_o) (inr is_p) =
    keyed_one state call code (key_for call.key (region_of state call.layer)) o p is_o.1 is_p.1

layer_one : (level : ℕ) (call : Call) (state : State) (o p : Outcome) → OnLayer level call state o → OnLayer level call state p → o ≡ p
layer_one level call state o p (inl is_o) (inl is_p) = is_o.1 ∙ sym is_p.1
layer_one level call state o p (inl is_o) (inr is_p) = absurd (not_both (nat_lt call.layer level || not (is_runnable state.layers call.layer)) is_o.0 is_p.0)
layer_one level call state o p (inr is_o) (inl is_p) = absurd (not_both (nat_lt call.layer level || not (is_runnable state.layers call.layer)) is_p.0 is_o.0)
layer_one level call state o p (inr is_o) (inr is_p) = coded_one state call (code_in state.codes call.layer) o p is_o.1 is_p.1

pub told_one : (here : World) (call : Call) (on : Result (ℕ × State) Refusal) (a b : Reply) (n m : World) → CallTold here call on a n → CallTold here call on b m → (a ≡ b) × (n ≡ m)
told_one here call (Err refusal) a b n m is_a is_b = (is_a.0 ∙ sym is_b.0, is_a.1 ∙ sym is_b.1)
told_one here call (Ok on) a b n m (o, at_o, told_o, next_o) (p, at_p, told_p, next_p) =
    let same : o ≡ p = layer_one on.0 call on.1 o p at_o at_p in (
      told_o ∙ ap (λ (x : Outcome). x.0) same ∙ sym told_p,
      next_o ∙ ap (λ (x : Outcome). record here { state = Some x.1 }) same ∙ sym next_p,
    )

-- ---- some outcome

-- it is absurd that there is none
abbrev ThereIs : (Outcome → Type 0) → Type 0
ThereIs Is = ((o : Outcome) → Is o → ⊥) → ⊥

ends_some : (state : State) (call : Call) (key : Option RegionKey) (ending : AppEnd) → ThereIs (EndsIn state call.layer key call.input ending)
ends_some state call key (end.Halted steps output) none =
    none _ (asks_nothing (λ action spelled. none _ (does_act action spelled refl)) refl)
ends_some state call key (end.Trap cause place output) none = none _ refl
ends_some state call key (end.OutOfSteps output) none = none _ refl

runs_some : (state : State) (call : Call) (key : Option RegionKey) (code : List ℕ) → ThereIs (RunsIn state call key code)
runs_some state call key code none =
    each_run_ends code call.input (readable_secrets state.layers call.layer state.two state.three) CALL_STEPS
    (λ ending run. ends_some state call key ending (λ o ends. none o (record { ending = ending; run = run; ends = ends })))

keyed_some : (state : State) (call : Call) (code : List ℕ) (key : Result (Option RegionKey) Refusal) → ThereIs (WithKey state call code key)
keyed_some state call code (Err refusal) none = none _ refl
keyed_some state call code (Ok key) none = runs_some state call key code none

taken_some : (state : State) (call : Call) (code : List ℕ) (b : Bool) → begins_with_call_word code ≡ b → ThereIs (WithCode state call (Some code))
taken_some state call code false is none = none _ (inl (is, refl))
taken_some state call code true is none = keyed_some state call code (key_for call.key (region_of state call.layer)) (λ o keyed. none o (inr (is, keyed)))

coded_some : (state : State) (call : Call) (code : Option (List ℕ)) → ThereIs (WithCode state call code)
coded_some state call None none = none _ refl
coded_some state call (Some code) none = taken_some state call code (begins_with_call_word code) refl none

layer_some : (level : ℕ) (call : Call) (state : State) (b : Bool) → (nat_lt call.layer level || not (is_runnable state.layers call.layer)) ≡ b → ThereIs (OnLayer level call state)
layer_some level call state true is none = none _ (inl (is, refl))
layer_some level call state false is none = coded_some state call (code_in state.codes call.layer) (λ o coded. none o (inr (is, coded)))

pub told_some : (here : World) (call : Call) (on : Result (ℕ × State) Refusal) → ((answer : Reply) (next : World) → CallTold here call on answer next → ⊥) → ⊥
told_some here call (Err refusal) none = none _ here (refl, refl)
told_some here call (Ok on) none =
    layer_some on.0 call on.1 (nat_lt call.layer on.0 || not (is_runnable on.1.layers call.layer)) refl (λ o at. none _ _ (o, at, refl, refl))
