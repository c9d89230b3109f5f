-- What is out of sight: the region beneath layer 3, and secrets that are not asked for.
use Rattle.std.proofs.Common.{◌≡◌, ℕ, ◌+◌, List, [], inl, inr, length, Option, None, Some, Bool, true, false, refl, sym, ap, subst, ◌∙◌, arith, ◌∷◌}
use Rattle.std.proofs.Math.Path.{fun_ext}
use Rattle.std.specs.Prelude.{◌≢◌, ◌≤◌, option_map, ◌⊎◌, ◌==◌, not, nat_lt, nat_le, ◌&&◌, ◌||◌, find, filter, Result, Ok, Err, if◌then◌else◌}
use Rattle.std.specs.List.{list_any}
use Rattle.std.proofs.lemmas.Option.{same_Some}
use Rattle.mb_model.specs.declared.event.Event.{Event}
use Rattle.mb_model.specs.declared.event.Event.TheVariants as event
use Rattle.mb_model.specs.declared.region.Region.{Region}
use Rattle.mb_model.specs.declared.region.RegionKey.{RegionKey}
use Rattle.mb_model.specs.declared.region.Secret.{Secret}
use Rattle.mb_model.specs.declared.reply.Refusal.{Refusal}
use Rattle.mb_model.specs.declared.reply.Refusal.TheVariants.{RegionFull, KeySpent, WrongPhase, WrongLayer, WrongCode}
use Rattle.mb_model.specs.declared.reply.Reply.{Reply}
use Rattle.mb_model.specs.declared.reply.Reply.TheVariants as reply
use Rattle.mb_model.specs.declared.state.State.{State}
use Rattle.mb_model.specs.records.ChainFormat.{statement_format}
use Rattle.mb_model.specs.machine.LayerEvents.{Outcome, code_in, takes_calls, has_name, has_number, with_secret, with_use, value_reply, on_region, put_event, get_event, drop_event, sign_with, sign_event, statement_of}
use Rattle.mb_model.specs.owners.Layers.{is_upper, is_runnable}
use Rattle.mb_model.specs.owners.Log.{entries_of, number_of}
use Rattle.mb_model.specs.machine.Machine.{Phase, off, dead, ratchet, World, Told, boot_event, running_state_in, status_event, go_event, region_event, CommandStep, CallTold, Machine, Step, machine_step, lacks_memory, loses_power}
use Rattle.mb_model.specs.machine.Refusals.{refusal_reply}
use Rattle.mb_model.specs.owners.Regions.{empty_region, region_of, with_region}
use Rattle.mb_model.specs.declared.layer.Layers.{Layers}
use Rattle.mb_model.specs.declared.limits.TheConstants.{CALL_STEPS}
use Rattle.mb_model.specs.declared.running.AppEnd.{AppEnd}
use Rattle.mb_model.specs.declared.running.AppEnd.TheVariants as end
use Rattle.mb_model.specs.application.Runs.{AppRun, is_readable, readable_secrets}
use Rattle.mb_model.specs.machine.Actions.{Demand, to_keep, to_drop}
use Rattle.mb_model.specs.machine.Calls.{Call, refuses, key_for, demand_outcome, unless_refused, after_demands, call_statement_of, answer_by, act_on, Acts, does_act, asks_nothing, EndsIn, WithKey, WithCode}
use Rattle.mb_model_lemmas.proofs.CallLemmas.{IsRefusedCall, AnswersAt, on_layer_comes}
use Rattle.mb_model_lemmas.proofs.RefusalLemmas.{awake_state}
use Rattle.mb_model_histories.specs.SightLaws.{without_region_two, WhatIsBeneathIsOutOfSight, OutOfSightInRuns, LayerTwoSeesItsRegion}
use Rattle.mb_model_histories.proofs.ChangeLemmas.{Commutes, CallCommutes, Agrees, with_value, step_seen, region_changed, put_changed}
use Rattle.mb_model_histories.proofs.RegionEventLemmas.{answer_spares}
use Rattle.mb_model_histories.proofs.StepLemmas.{awake_phase}

-- ---- what layers do with a region that is changed

-- A change of a region after which its events come to the same, but for the values that are put.
pub record IsGentle (change : Region → Region) (value : List ℕ → List ℕ → List ℕ) : Type 0 where
  pub any : (region : Region) (name : List ℕ) → list_any (has_name name) (change region).secrets ≡ list_any (has_name name) region.secrets
  pub count : (region : Region) → length (change region).secrets ≡ length region.secrets
  pub puts : (region : Region) (name given : List ℕ) (born : ℕ)
      → record (change region) { secrets = with_secret (record { name = name; value = value name given; born = born }) (change region).secrets }
      ≡ change (record region { secrets = with_secret (record { name = name; value = given; born = born }) region.secrets })
  pub drops : (region : Region) (name : List ℕ)
      → record (change region) { secrets = filter (λ secret. not (has_name name secret)) (change region).secrets }
      ≡ change (record region { secrets = filter (λ secret. not (has_name name secret)) region.secrets })
  pub keys : (region : Region) → (change region).keys ≡ region.keys
  pub uses : (region : Region) (keys : List RegionKey) → record (change region) { keys = keys } ≡ change (record region { keys = keys })

abbrev with_change : (State → State) → Outcome → Outcome
with_change change outcome = (outcome.0, change outcome.1)

if_outcome : (change : State → State) (b : Bool) (x y : Reply) (state next other : State) → other ≡ change next
    → (if b then (x, change state) else (y, other)) ≡ with_change change (if b then (x, state) else (y, next))
if_outcome change true x y state next other same = refl
if_outcome change false x y state next other same = ap {B = Outcome} (λ (s : State). (y, s)) same

module _ (change : ℕ → Region → Region) (blank : (n : ℕ) → change n empty_region ≡ empty_region) where
  abbrev pub changed : State → State
  changed state = record state { two = change 2 state.two; three = change 3 state.three }

  abbrev pub outcome_changed : Outcome → Outcome
  outcome_changed outcome = (outcome.0, changed outcome.1)

  here : (n : ℕ) (state : State) → region_of (changed state) n ≡ change n (region_of state n)
  here n state = region_changed change blank n state

  placed : (n : ℕ) (region : Region) (state : State) → with_region (changed state) n (change n region) ≡ changed (with_region state n region)
  placed n region state = put_changed change n region state

  module _ (layer : ℕ) (value : List ℕ → List ℕ → List ℕ) (gentle : IsGentle (change layer) value) (state : State) where
    abbrev pub region : Region
    region = region_of state layer

    pub put_seen : (name given : List ℕ) → put_event layer name (value name given) (changed state) ≡ outcome_changed (put_event layer name given state)
    unfolding put_event
    put_seen name given =
        let born : ℕ = number_of (entries_of state.log) in
        let new : Secret = record { name = name; value = value name given; born = born } in
        let put_in : Region → Outcome = λ r. if not (list_any (has_name name) r.secrets) && nat_le 22 (length r.secrets) then (refusal_reply RegionFull, changed state)
        else (reply.Kept, with_region (changed state) layer (record r { secrets = with_secret new r.secrets })) in
        let after : Region = record region { secrets = with_secret (record { name = name; value = given; born = born }) region.secrets } in
        let full : Bool = not (list_any (has_name name) region.secrets) && nat_le 22 (length region.secrets) in
        let next : State = with_region (changed state) layer (record (change layer region) { secrets = with_secret new (change layer region).secrets }) in
        ap put_in (here layer state)
        ∙ ap (λ (b : Bool). if not b && nat_le 22 (length (change layer region).secrets) then (refusal_reply RegionFull, changed state) else (reply.Kept, next)) (gentle.any region name)
        ∙ ap (λ (n : ℕ). if not (list_any (has_name name) region.secrets) && nat_le 22 n then (refusal_reply RegionFull, changed state) else (reply.Kept, next)) (gentle.count region)
        ∙ if_outcome changed full (refusal_reply RegionFull) reply.Kept state (with_region state layer after) next
        (ap (with_region (changed state) layer) (gentle.puts region name given born) ∙ placed layer after state)

    pub drop_seen : (name : List ℕ) → drop_event layer name (changed state) ≡ outcome_changed (drop_event layer name state)
    unfolding drop_event
    drop_seen name =
        let others : Region → List Secret = λ r. filter (λ secret. not (has_name name secret)) r.secrets in
        let drop_in : Region → Outcome = λ r. if list_any (has_name name) r.secrets then (reply.Dropped, with_region (changed state) layer (record r { secrets = others r }))
        else (reply.Absent, changed state) in
        let after : Region = record region { secrets = others region } in
        let next : State = with_region (changed state) layer (record (change layer region) { secrets = others (change layer region) }) in
        ap drop_in (here layer state)
        ∙ ap (λ (b : Bool). if b then (reply.Dropped, next) else (reply.Absent, changed state)) (gentle.any region name)
        ∙ ap (λ (s : State). if list_any (has_name name) region.secrets then (reply.Dropped, s) else (reply.Absent, changed state))
        (ap (with_region (changed state) layer) (gentle.drops region name) ∙ placed layer after state)
        ∙ either (list_any (has_name name) region.secrets) (reply.Dropped, with_region state layer after) (reply.Absent, state)
      where
        either : (b : Bool) (x y : Outcome) → (if b then outcome_changed x else outcome_changed y) ≡ outcome_changed (if b then x else y)
        either true x y = refl
        either false x y = refl

    sign_with_seen : (key : Option RegionKey) (message : List ℕ) → sign_with layer key message (changed state) ≡ outcome_changed (sign_with layer key message state)
    unfolding statement_of
    sign_with_seen None message = refl
    sign_with_seen (Some key) message =
        let after : Region = record region { keys = with_use key.number region.keys } in
        let used : Region → Region = λ r. record r { keys = with_use key.number r.keys } in
        let signed : Reply = reply.Signed key.number key.uses (statement_format.spelling (statement_of state key message)) in
        if_outcome changed (nat_le 32 key.uses) (refusal_reply KeySpent) signed state (with_region state layer after) _
        (ap (λ (r : Region). with_region (changed state) layer (used r)) (here layer state)
        ∙ ap (λ (keys : List RegionKey). with_region (changed state) layer (record (change layer region) { keys = with_use key.number keys })) (gentle.keys region)
        ∙ ap (with_region (changed state) layer) (gentle.uses region (with_use key.number region.keys))
        ∙ placed layer after state)

    pub sign_seen : (number : ℕ) (message : List ℕ) → sign_event layer number message (changed state) ≡ outcome_changed (sign_event layer number message state)
    unfolding sign_event
    sign_seen number message =
        ap (λ (r : Region). sign_with layer (find (has_number number) r.keys) message (changed state)) (here layer state)
        ∙ ap (λ (keys : List RegionKey). sign_with layer (find (has_number number) keys) message (changed state)) (gentle.keys region)
        ∙ sign_with_seen (find (has_number number) region.keys) message

    pub get_seen : (name : List ℕ) → value_reply (find (has_name name) (change layer region).secrets) ≡ value_reply (find (has_name name) region.secrets)
        → get_event layer name (changed state) ≡ outcome_changed (get_event layer name state)
    unfolding get_event
    get_seen name same =
        ap {B = Outcome} (λ (r : Region). (value_reply (find (has_name name) r.secrets), changed state)) (here layer state)
        ∙ ap {B = Outcome} (λ (answer : Reply). (answer, changed state)) same

-- a change that leaves each region is gentle
pub same_gently : (change : Region → Region) → ((region : Region) → change region ≡ region) → IsGentle change (λ name value. value)
same_gently change same = record {
  any = λ region name. ap (λ (r : Region). list_any (has_name name) r.secrets) (same region);
  count = λ region. ap (λ (r : Region). length r.secrets) (same region);
  puts = λ region name given born.
      let new : Secret = record { name = name; value = given; born = born } in
      ap (λ (r : Region). record r { secrets = with_secret new r.secrets }) (same region) ∙ sym (same (record region { secrets = with_secret new region.secrets }));
  drops = λ region name.
      ap (λ (r : Region). record r { secrets = filter (λ secret. not (has_name name secret)) r.secrets }) (same region)
      ∙ sym (same (record region { secrets = filter (λ secret. not (has_name name secret)) region.secrets }));
  keys = λ region. ap (λ (r : Region). r.keys) (same region);
  uses = λ region keys. ap (λ (r : Region). record r { keys = keys }) (same region) ∙ sym (same (record region { keys = keys }));
}

-- ---- calls, if what their code may read is not changed

-- the change leaves the region of this layer, and of each layer above
abbrev pub Untouched : (ℕ → Region → Region) → ℕ → Type 0
Untouched change layer = (n : ℕ) (region : Region) → layer ≤ n → change n region ≡ region

readable_parts : (upper below runs : Bool) → (upper && (below && runs)) ≡ true → (upper ≡ true) × (below ≡ true)
readable_parts true true true e = (refl, refl)
readable_parts true true false e = absurd (grind (arith, e))
readable_parts true false runs e = absurd (grind (arith, e))
readable_parts false below runs e = absurd (grind (arith, e))

two_above : (layer region : ℕ) → nat_le layer region ≡ true → (region == 2) ≡ true → layer ≤ 2
two_above layer region below is = grind (arith, below, is)

three_above : (layer region : ℕ) → is_upper region ≡ true → nat_le layer region ≡ true → (region == 2) ≡ false → layer ≤ 3
three_above layer region upper below is = grind (arith, upper, below, is)

module _ (change : ℕ → Region → Region) (blank : (n : ℕ) → change n empty_region ≡ empty_region) (call : Call) (untouched : Untouched change call.layer) where
  abbrev moved : State → State
  moved state = changed change blank state

  abbrev moved_outcome : Outcome → Outcome
  moved_outcome outcome = outcome_changed change blank outcome

  own : (region : Region) → change call.layer region ≡ region
  own region = untouched call.layer region (omega arith)

  own_gently : IsGentle (change call.layer) (λ name value. value)
  own_gently = same_gently (change call.layer) own

  own_region : (state : State) → region_of (moved state) call.layer ≡ region_of state call.layer
  own_region state = here change blank call.layer state ∙ own (region_of state call.layer)

  demand_seen : (demand : Demand) (state : State) → demand_outcome call.layer demand (moved state) ≡ moved_outcome (demand_outcome call.layer demand state)
  demand_seen (to_keep name value) state = put_seen change blank call.layer (λ name value. value) own_gently state name value
  demand_seen (to_drop name) state = drop_seen change blank call.layer (λ name value. value) own_gently state name

  unless_seen : (b : Bool) (after : Option State) → (if b then None else option_map moved after) ≡ option_map moved (if b then None else after)
  unless_seen true after = refl
  unless_seen false after = refl

  demands_seen : (demands : List Demand) (state : State) → after_demands call.layer demands (moved state) ≡ option_map moved (after_demands call.layer demands state)
  unfolding after_demands
  demands_seen [] state = refl
  demands_seen (demand ∷ later) state =
      let outcome : Outcome = demand_outcome call.layer demand state in
      ap (λ (o : Outcome). unless_refused o (λ next. after_demands call.layer later next)) (demand_seen demand state)
      ∙ ap (λ (after : Option State). if refuses outcome.0 then None else after) (demands_seen later outcome.1)
      ∙ unless_seen (refuses outcome.0) (after_demands call.layer later outcome.1)

  used_seen : (number : ℕ) (state : State)
      → with_region (moved state) call.layer (record (region_of (moved state) call.layer) { keys = with_use number (region_of (moved state) call.layer).keys })
      ≡ moved (with_region state call.layer (record (region_of state call.layer) { keys = with_use number (region_of state call.layer).keys }))
  used_seen number state =
      let used : Region → Region = λ region. record region { keys = with_use number region.keys } in
      ap (λ (region : Region). with_region (moved state) call.layer (used region)) (own_region state)
      ∙ ap (with_region (moved state) call.layer) (sym (own (used (region_of state call.layer))))
      ∙ placed change blank call.layer (used (region_of state call.layer)) state

  answer_seen : (key : Option RegionKey) (input answer : List ℕ) (before after : State)
      → answer_by call.layer key input answer (moved before) (moved after) ≡ moved_outcome (answer_by call.layer key input answer before after)
  unfolding call_statement_of
  answer_seen None input answer before after = refl
  answer_seen (Some key) input answer before after =
      ap {B = Outcome} (λ (state : State). (reply.Signed key.number key.uses (statement_format.spelling (call_statement_of before key input answer)), state)) (used_seen key.number after)

  act_seen : (key : Option RegionKey) (input answer : List ℕ) (state : State) (after : Option State)
      → act_on call.layer key input answer (moved state) (option_map moved after) ≡ moved_outcome (act_on call.layer key input answer state after)
  act_seen key input answer state None = refl
  act_seen key input answer state (Some after) = answer_seen key input answer state after

  acts_seen : (state : State) (key : Option RegionKey) (output : List ℕ) (outcome : Outcome) → Acts state call.layer key call.input output outcome
      → Acts (moved state) call.layer key call.input output (moved_outcome outcome)
  acts_seen state key output outcome (does_act action spelled is) =
      does_act action spelled (ap moved_outcome is ∙ sym (act_seen key call.input action.answer state (after_demands call.layer action.demands state))
      ∙ ap (act_on call.layer key call.input action.answer (moved state)) (sym (demands_seen action.demands state)))
  acts_seen state key output outcome (asks_nothing none is) = asks_nothing none (ap moved_outcome is)

  ends_seen : (state : State) (key : Option RegionKey) (ending : AppEnd) (outcome : Outcome) → EndsIn state call.layer key call.input ending outcome
      → EndsIn (moved state) call.layer key call.input ending (moved_outcome outcome)
  ends_seen state key (end.Halted steps output) outcome ends = acts_seen state key output outcome ends
  ends_seen state key (end.Trap cause place output) outcome ends = ap moved_outcome ends
  ends_seen state key (end.OutOfSteps output) outcome ends = ap moved_outcome ends

  secrets_at : (layers : Layers) (two three : Region) (n : ℕ) (readable second : Bool) → is_readable layers call.layer n ≡ readable → (n == 2) ≡ second
      → (if readable then Some (if second then (change 2 two).secrets else (change 3 three).secrets) else None)
      ≡ (if readable then Some (if second then two.secrets else three.secrets) else None)
  secrets_at layers two three n false second may is = refl
  secrets_at layers two three n true true may is =
      let parts = readable_parts (is_upper n) (nat_le call.layer n) (is_runnable layers n) may in
      ap (λ (r : Region). Some r.secrets) (untouched 2 two (two_above call.layer n parts.1 is))
  secrets_at layers two three n true false may is =
      let parts = readable_parts (is_upper n) (nat_le call.layer n) (is_runnable layers n) may in
      ap (λ (r : Region). Some r.secrets) (untouched 3 three (three_above call.layer n parts.0 parts.1 is))

  secrets_seen : (layers : Layers) (two three : Region) → readable_secrets layers call.layer two three ≡ readable_secrets layers call.layer (change 2 two) (change 3 three)
  secrets_seen layers two three = fun_ext (λ n. sym (secrets_at layers two three n (is_readable layers call.layer n) (n == 2) refl refl))

  keyed_seen : (state : State) (code : List ℕ) (key : Result (Option RegionKey) Refusal) (outcome : Outcome) → WithKey state call code key outcome
      → WithKey (moved state) call code key (moved_outcome outcome)
  keyed_seen state code (Err refusal) outcome is = ap moved_outcome is
  keyed_seen state code (Ok key) outcome is = record {
    ending = is.ending;
    run = subst (λ (seen : ℕ → Option (List Secret)). AppRun code call.input seen CALL_STEPS is.ending) (secrets_seen state.layers state.two state.three) is.run;
    ends = ends_seen state key is.ending outcome is.ends;
  }

  coded_seen : (state : State) (code : Option (List ℕ)) (outcome : Outcome) → WithCode state call code outcome → WithCode (moved state) call code (moved_outcome outcome)
  coded_seen state None outcome is = ap moved_outcome is
  coded_seen state (Some code) outcome (inl is) = inl (is.0, ap moved_outcome is.1)
  coded_seen state (Some code) outcome (inr is) =
      inr (
        is.0,
        subst (λ (key : Result (Option RegionKey) Refusal). WithKey (moved state) call code key (moved_outcome outcome)) (sym (ap (key_for call.key) (own_region state)))
            (keyed_seen state code (key_for call.key (region_of state call.layer)) outcome is.1),
      )

  pub call_seen : (state : State) (outcome : Outcome) → WithCode state call (code_in state.codes call.layer) outcome
      → WithCode (moved state) call (code_in state.codes call.layer) (moved_outcome outcome)
  call_seen state outcome is = coded_seen state (code_in state.codes call.layer) outcome is

-- ---- the region beneath layer 3

emptied : ℕ → Region → Region
emptied n region = if n == 2 then empty_region else region

abbrev level_of : Phase → ℕ
level_of (ratchet level) = level
level_of off = 0
level_of dead = 0

either_blank : (b : Bool) → (if b then empty_region else empty_region) ≡ empty_region
either_blank true = refl
either_blank false = refl

not_two : (n : ℕ) → nat_lt n 3 ≡ false → (n == 2) ≡ false
not_two n e = grind (arith, e)

same_value : ℕ → List ℕ → List ℕ → List ℕ
same_value layer name value = value

plain_value : (this : Event) → with_value emptied same_value (λ b. b) this ≡ this
unfolding same_value
plain_value (event.Put layer name value) = refl
plain_value other = refl

empty_blank : (n : ℕ) → emptied n empty_region ≡ empty_region
unfolding emptied
empty_blank n = either_blank (n == 2)

-- the region of another layer is not changed
same_region : (n : ℕ) (region : Region) → (n == 2) ≡ false → emptied n region ≡ region
unfolding emptied
same_region n region other = ap (λ (b : Bool). if b then empty_region else region) other

module _ (layer : ℕ) (other : (layer == 2) ≡ false) where
  emptied_gently : IsGentle (emptied layer) (same_value layer)
  unfolding same_value
  emptied_gently = same_gently (emptied layer) (λ region. same_region layer region other)

-- what a layer does with a region, if none that runs is past it
above_two : (phase : Phase) (layer : ℕ) (does again : State → Outcome) → phase ≡ ratchet 3
    → ((layer == 2) ≡ false → (state : State) → again (changed emptied empty_blank state) ≡ outcome_changed emptied empty_blank (does state))
    → Commutes emptied same_value (λ b. b) phase layer does again
above_two phase layer does again at each level running = by (nat_lt layer 3) refl
  where
    by : (b : Bool) → nat_lt layer 3 ≡ b → (nat_lt layer level ≡ true) ⊎ ((state : State) → again (changed emptied empty_blank state) ≡ outcome_changed emptied empty_blank (does state))
    by true is = inl (ap (nat_lt layer) (ap level_of (sym running ∙ at)) ∙ is)
    by false is = inr (each (not_two layer is))

-- so does a call
above_untouched : (layer : ℕ) → nat_lt layer 3 ≡ false → Untouched emptied layer
above_untouched layer above n region more = same_region n region (grind (arith, above, more))

call_above : (phase : Phase) (call : Call) → phase ≡ ratchet 3 → CallCommutes emptied same_value (λ b. b) phase call
call_above phase call at level running = by (nat_lt call.layer 3) refl
  where
    by : (b : Bool) → nat_lt call.layer 3 ≡ b
        → (nat_lt call.layer level ≡ true)
        ⊎ ((state : State) (outcome : Outcome) → WithCode state call (code_in state.codes call.layer) outcome
        → WithCode (changed emptied empty_blank state) call (code_in state.codes call.layer) (outcome_changed emptied empty_blank outcome))
    by true is = inl (ap (nat_lt call.layer) (ap level_of (sym running ∙ at)) ∙ is)
    by false is = inr (call_seen emptied empty_blank call (above_untouched call.layer is))

agrees_above : (phase : Phase) (this : Event) → phase ≡ ratchet 3 → Agrees emptied same_value (λ b. b) phase this
unfolding same_value
agrees_above phase event.Boot at = tt
agrees_above phase event.Off at = tt
agrees_above phase event.Tamper at = tt
agrees_above phase event.Status at = tt
agrees_above phase event.Go at = tt
agrees_above phase (event.Cut count tear) at = refl
agrees_above phase (event.Order text draw) at = λ first. absurd (omega (arith, ap level_of (sym at ∙ first)))
agrees_above phase (event.Put layer name value) at =
    above_two phase layer (put_event layer name value) (put_event layer name value) at (λ other state. put_seen emptied empty_blank layer (same_value layer) (emptied_gently layer other) state name value)
agrees_above phase (event.Get layer name) at =
    above_two phase layer (get_event layer name) (get_event layer name) at
    (λ other state. get_seen emptied empty_blank layer (same_value layer) (emptied_gently layer other) state name
    (ap (λ (r : Region). value_reply (find (has_name name) r.secrets)) (same_region layer (region_of state layer) other)))
agrees_above phase (event.Drop layer name) at =
    above_two phase layer (drop_event layer name) (drop_event layer name) at (λ other state. drop_seen emptied empty_blank layer (same_value layer) (emptied_gently layer other) state name)
agrees_above phase (event.Sign layer key message) at =
    above_two phase layer (sign_event layer key message) (sign_event layer key message) at (λ other state. sign_seen emptied empty_blank layer (same_value layer) (emptied_gently layer other) state key message)
agrees_above phase (event.Call layer key input) at = call_above phase _ at

beneath_seen : (world next : World) (this : Event) (answer : Reply) → world.phase ≡ ratchet 3 → Step world this answer next → Step (without_region_two world) this answer (without_region_two next)
unfolding emptied
beneath_seen world next this answer at step =
    subst (λ (e : Event). Step (without_region_two world) e answer (without_region_two next)) (plain_value this)
    (step_seen emptied same_value (λ b. b) world this answer next (λ b. refl) (agrees_above world.phase this at) step)

-- what leaves region 2 as it was
abbrev TwoStays : Option State → Option State → Type 0
TwoStays first second = (before after : State) → first ≡ Some before → second ≡ Some after → after.two ≡ before.two

two_same : (o : Option State) → TwoStays o o
two_same o before after was is = ap (λ (s : State). s.two) (same_Some after before (sym is ∙ was))

either_two : (b : Bool) (x y : Outcome) (two : Region) → x.1.two ≡ two → y.1.two ≡ two → (if b then x else y).1.two ≡ two
either_two true x y two first second = first
either_two false x y two first second = second

module _ (layer : ℕ) (other : (layer == 2) ≡ false) (state : State) where
  placed_two : (region : Region) → (with_region state layer region).two ≡ state.two
  placed_two region = ap (λ (b : Bool). if b then region else state.two) other

  put_two : (name value : List ℕ) → (put_event layer name value state).1.two ≡ state.two
  unfolding put_event
  put_two name value =
      either_two (not (list_any (has_name name) (region_of state layer).secrets) && nat_le 22 (length (region_of state layer).secrets)) _ _ state.two refl (placed_two _)

  get_two : (name : List ℕ) → (get_event layer name state).1.two ≡ state.two
  unfolding get_event
  get_two name = refl

  drop_two : (name : List ℕ) → (drop_event layer name state).1.two ≡ state.two
  unfolding drop_event
  drop_two name = either_two (list_any (has_name name) (region_of state layer).secrets) _ _ state.two (placed_two _) refl

  sign_with_two : (key : Option RegionKey) (message : List ℕ) → (sign_with layer key message state).1.two ≡ state.two
  sign_with_two None message = refl
  sign_with_two (Some key) message = either_two (nat_le 32 key.uses) _ _ state.two refl (placed_two _)

  sign_two : (number : ℕ) (message : List ℕ) → (sign_event layer number message state).1.two ≡ state.two
  unfolding sign_event
  sign_two number message = sign_with_two (find (has_number number) (region_of state layer).keys) message

barred_two : (level layer : ℕ) (does : State → Outcome) (state : State) → level ≡ 3 → ((layer == 2) ≡ false → (does state).1.two ≡ state.two)
    → (on_region level layer does state).1.two ≡ state.two
barred_two level layer does state third each = by (nat_lt layer level) refl
  where
    by : (b : Bool) → nat_lt layer level ≡ b
        → (if b || not (is_runnable state.layers layer) then (refusal_reply WrongLayer, state) else if takes_calls (code_in state.codes layer) then (refusal_reply WrongCode, state) else does state).1.two ≡ state.two
    by true is = refl
    by false is = either_two (not (is_runnable state.layers layer)) (refusal_reply WrongLayer, state) _ state.two refl
        (either_two (takes_calls (code_in state.codes layer)) (refusal_reply WrongCode, state) (does state) state.two refl
        (each (not_two layer (ap (nat_lt layer) (sym third) ∙ is))))

module _ (world : World) (at : world.phase ≡ ratchet 3) where
  told_two : (answer : Reply) (next : World) (told : Told) → ◌≡◌ {A = Told} (answer, next) told → TwoStays world.state told.1.state → TwoStays world.state next.state
  told_two answer next told e stays = subst (TwoStays world.state) (sym (ap (λ (t : Told). t.1.state) e)) stays

  world_two : (next other : World) → next ≡ other → TwoStays world.state other.state → TwoStays world.state next.state
  world_two next other e stays = subst (TwoStays world.state) (sym (ap (λ (w : World). w.state) e)) stays

  on_third : (on : ℕ × State) → running_state_in world ≡ Ok on → on.0 ≡ 3
  on_third on is = ap level_of (sym (awake_phase world.phase world.state on is) ∙ at)

  region_two : (layer : ℕ) (does : State → Outcome) (on : Result (ℕ × State) Refusal) → running_state_in world ≡ on
      → ((layer == 2) ≡ false → (state : State) → (does state).1.two ≡ state.two) → TwoStays world.state (region_event world layer does on).1.state
  region_two layer does (Err refusal) is each = two_same world.state
  region_two layer does (Ok on) is each = λ before after was becomes.
      let from : before ≡ on.1 = same_Some before on.1 (sym was ∙ awake_state world.phase world.state on is) in
      let to : after ≡ (on_region on.0 layer does on.1).1 = same_Some after _ (sym becomes) in
      ap (λ (s : State). s.two) to ∙ barred_two on.0 layer does on.1 (on_third on is) (λ other. each other on.1) ∙ sym (ap (λ (s : State). s.two) from)

  command_two : (text draw : List ℕ) (on : Result (ℕ × State) Refusal) (answer : Reply) (next : World) → running_state_in world ≡ on
      → CommandStep world text draw on answer next → TwoStays world.state next.state
  command_two text draw (Err refusal) answer next is x = world_two next world x.1 (two_same world.state)
  command_two text draw (Ok on) answer next is (inl x) = absurd (omega (arith, x.0, on_third on is))
  command_two text draw (Ok on) answer next is (inr x) = world_two next world x.2 (two_same world.state)

  not_below : (layer level : ℕ) → level ≡ 3 → nat_lt layer level ≡ false → 2 ≢ layer
  not_below layer level third above is = grind (arith, third, above, is)

  call_two : (call : Call) (on : Result (ℕ × State) Refusal) (answer : Reply) (next : World) → running_state_in world ≡ on
      → CallTold world call on answer next → TwoStays world.state next.state
  call_two call (Err refusal) answer next is x = world_two next world x.1 (two_same world.state)
  call_two call (Ok on) answer next is (outcome, at, told, follows) = λ before after was becomes.
      let from : before ≡ on.1 = same_Some before on.1 (sym was ∙ awake_state world.phase world.state on is) in
      let to : after ≡ outcome.1 = same_Some after outcome.1 (sym becomes ∙ ap (λ (w : World). w.state) follows) in
      ap (λ (s : State). s.two) to ∙ by (on_layer_comes on.0 call on.1 outcome at) ∙ sym (ap (λ (s : State). s.two) from)
    where
      by : AnswersAt on.0 call on.1 outcome ⊎ IsRefusedCall on.1 outcome → outcome.1.two ≡ on.1.two
      by (inl answers) = answer_spares call on.1 outcome answers.is 2 (not_below call.layer on.0 (on_third on is) answers.in_control)
      by (inr refused) = ap (λ (s : State). s.two) refused.1

  boot_two : (phase : Phase) (state : Option State) → TwoStays world.state (boot_event world phase state).1.state
  boot_two off (Some state) = two_same world.state
  boot_two off None = two_same world.state
  boot_two dead state = two_same world.state
  boot_two (ratchet level) state = two_same world.state

  status_two : (on : Result (ℕ × State) Refusal) → TwoStays world.state (status_event world on).1.state
  status_two (Err refusal) = two_same world.state
  status_two (Ok on) = two_same world.state

  either_told : (b : Bool) (x y : Told) → TwoStays world.state x.1.state → TwoStays world.state y.1.state → TwoStays world.state (if b then x else y).1.state
  either_told true x y first second = first
  either_told false x y first second = second

  go_two : (on : Result (ℕ × State) Refusal) → TwoStays world.state (go_event world on).1.state
  go_two (Err refusal) = two_same world.state
  go_two (Ok on) =
      either_told (nat_lt 2 on.0) (refusal_reply WrongPhase, world) _ (two_same world.state)
      (either_told (is_runnable on.1.layers (on.0 + 1)) (reply.At (on.0 + 1), record world { phase = ratchet (on.0 + 1) }) (refusal_reply WrongLayer, world)
      (two_same world.state) (two_same world.state))

  machine_two : (this : Event) (answer : Reply) (next : World) → Machine world this answer next → TwoStays world.state next.state
  machine_two event.Boot answer next x = told_two answer next (boot_event world world.phase world.state) x (boot_two world.phase world.state)
  machine_two event.Off answer next x = world_two next (record world { phase = off }) x.1 (two_same world.state)
  machine_two event.Tamper answer next x = world_two next (record world { phase = off; state = None }) x.1 (λ before after was is. absurd (grind (arith, is)))
  machine_two (event.Cut count tear) answer next x = world_two next (record world { armed = true }) x.1 (two_same world.state)
  machine_two event.Status answer next x = told_two answer next (status_event world (running_state_in world)) x (status_two (running_state_in world))
  machine_two (event.Order text draw) answer next x = command_two text draw (running_state_in world) answer next refl x
  machine_two event.Go answer next x = told_two answer next (go_event world (running_state_in world)) x (go_two (running_state_in world))
  machine_two (event.Put layer name value) answer next x =
      told_two answer next (region_event world layer (put_event layer name value) (running_state_in world)) x
      (region_two layer (put_event layer name value) (running_state_in world) refl (λ other state. put_two layer other state name value))
  machine_two (event.Get layer name) answer next x =
      told_two answer next (region_event world layer (get_event layer name) (running_state_in world)) x
      (region_two layer (get_event layer name) (running_state_in world) refl (λ other state. get_two layer other state name))
  machine_two (event.Drop layer name) answer next x =
      told_two answer next (region_event world layer (drop_event layer name) (running_state_in world)) x
      (region_two layer (drop_event layer name) (running_state_in world) refl (λ other state. drop_two layer other state name))
  machine_two (event.Sign layer key message) answer next x =
      told_two answer next (region_event world layer (sign_event layer key message) (running_state_in world)) x
      (region_two layer (sign_event layer key message) (running_state_in world) refl (λ other state. sign_two layer other state key message))
  machine_two (event.Call layer key input) answer next x = call_two _ (running_state_in world) answer next refl x

  step_two : (this : Event) (answer : Reply) (next : World) → Step world this answer next → TwoStays world.state next.state
  step_two this answer next (machine_step x) = machine_two this answer next x
  step_two this answer next (lacks_memory p) = world_two next world p.stays (two_same world.state)
  step_two this answer next (loses_power p) = subst (TwoStays world.state) (sym (ap (λ (w : World). w.state) p.follows))
      (elim (p.counts) [
        | inl before ↦ subst (TwoStays world.state) (sym before) (two_same world.state)
        | inr after ↦ subst (TwoStays world.state) (sym after) (machine_two this p.told p.whole p.machine)
      ])

pub what_is_beneath : WhatIsBeneathIsOutOfSight
what_is_beneath world next this answer at step = (beneath_seen world next this answer at step, step_two world at this answer next step)

pub out_of_sight_in_runs : OutOfSightInRuns
out_of_sight_in_runs world next [] run third = ap without_region_two run
out_of_sight_in_runs world next (this ∷ rest) run third =
    (without_region_two run.0, beneath_seen world run.0 this.event this.reply third.0 run.1, out_of_sight_in_runs run.0 next rest run.2 third.1)

-- ---- layer 2 sees its region

-- what is answered to a `get` of region 2 with these secrets, while layer 2 is in control
got : (runs taken : Bool) (state : State) (secrets : List Secret) (name : List ℕ) → Told
got runs taken state secrets name =
    let outcome : Outcome = if not runs then (refusal_reply WrongLayer, state) else if taken then (refusal_reply WrongCode, state) else (value_reply (find (has_name name) secrets), state) in
    (outcome.0, record { state = Some outcome.1; phase = ratchet 2; armed = false })

value_told : Option Secret → State → Told
value_told found state = (value_reply found, record { state = Some state; phase = ratchet 2; armed = false })

pub layer_two_sees : LayerTwoSeesItsRegion
unfolding get_event got value_told
layer_two_sees state secret found runs unsealed =
    let empty : State = record state { two = empty_region } in
    let taken : Bool = takes_calls (code_in state.codes 2) in (
      ap (λ (o : Option Secret). value_told o state) (sym found) ∙ ap (λ b. got true b state state.two.secrets secret.name) (sym unsealed) ∙ ap (λ b. got b taken state state.two.secrets secret.name) (sym runs),
      ap (λ b. got true b empty [] secret.name) (sym unsealed) ∙ ap (λ b. got b taken empty [] secret.name) (sym runs),
    )
