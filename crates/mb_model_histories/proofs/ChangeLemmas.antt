-- If what an event does with a region commutes with a change of regions, each step does.
use Rattle.std.proofs.Common.{◌≡◌, ℕ, ◌+◌, List, inl, inr, Option, None, Some, Bool, true, false, refl, sym, ap, subst, ◌∙◌, arith}
use Rattle.std.specs.Prelude.{◌⊎◌, ◌==◌, not, nat_lt, ◌||◌, IsTrue, Result, Ok, Err, option_map, if◌then◌else◌}
use Rattle.mb_model.specs.declared.event.Event.{Event}
use Rattle.mb_model.specs.declared.event.Event.TheVariants as event
use Rattle.mb_model.specs.declared.region.Region.{Region}
use Rattle.mb_model.specs.declared.reply.Refusal.{Refusal}
use Rattle.mb_model.specs.declared.reply.Refusal.TheVariants.{WrongPhase, WrongLayer, WrongCode}
use Rattle.mb_model.specs.declared.reply.Reply.{Reply}
use Rattle.mb_model.specs.declared.reply.Reply.TheVariants as reply
use Rattle.mb_model.specs.declared.state.State.{State}
use Rattle.mb_model.specs.owners.Layers.{is_runnable}
use Rattle.mb_model.specs.machine.LayerEvents.{Outcome, code_in, takes_calls, on_region, put_event, get_event, drop_event, sign_event}
use Rattle.mb_model.specs.machine.Machine.{Phase, off, dead, ratchet, World, Told, boot_event, running_state, running_state_in, status_of, status_event, go_event, region_event, CommandStep, CallTold, Machine, may_want_memory, Step, machine_step, lacks_memory, loses_power}
use Rattle.mb_model.specs.machine.Calls.{Call, WithCode, OnLayer}
use Rattle.mb_model.specs.machine.OrderStep.{OrderStep}
use Rattle.mb_model.specs.machine.Refusals.{refusal_reply}
use Rattle.mb_model.specs.owners.Regions.{empty_region, region_of, with_region}
use Rattle.mb_model_histories.proofs.StepLemmas.{awake_phase}

is_equal : (a b : ℕ) → (a == b) ≡ true → a ≡ b
is_equal a b e = grind (arith, e)

module _ (change : ℕ → Region → Region) (value : ℕ → List ℕ → List ℕ → List ℕ) (arm : Bool → Bool) where
  -- the state with its two regions changed
  abbrev pub changed : State → State
  changed state = record state { two = change 2 state.two; three = change 3 state.three }

  -- the world with its state changed, and with this in place of whether a power loss is armed
  abbrev pub seen : World → World
  seen world = record { state = option_map changed world.state; phase = world.phase; armed = arm world.armed }

  -- the event with another value, if it puts one
  abbrev pub with_value : Event → Event
  with_value (event.Put layer name given) = event.Put layer name (value layer name given)
  with_value other = other

  abbrev pub seen_outcome : Outcome → Outcome
  seen_outcome outcome = (outcome.0, changed outcome.1)

  -- what a layer does with a region commutes with the change, or a layer that runs is past it
  abbrev pub Commutes : Phase → ℕ → (State → Outcome) → (State → Outcome) → Type 0
  Commutes phase layer does other =
      (level : ℕ) → phase ≡ ratchet level → (nat_lt layer level ≡ true) ⊎ ((state : State) → other (changed state) ≡ seen_outcome (does state))

  -- what a call comes to commutes with the change, or a layer that runs is past the called one
  abbrev pub CallCommutes : Phase → Call → Type 0
  CallCommutes phase call =
      (level : ℕ) → phase ≡ ratchet level → (nat_lt call.layer level ≡ true)
      ⊎ ((state : State) (outcome : Outcome) → WithCode state call (code_in state.codes call.layer) outcome
      → WithCode (changed state) call (code_in state.codes call.layer) (seen_outcome outcome))

  -- what is wanted of an event
  abbrev pub Agrees : Phase → Event → Type 0
  Agrees phase event.Boot = Unit {0}
  Agrees phase event.Off = Unit {0}
  Agrees phase event.Tamper = Unit {0}
  Agrees phase event.Status = Unit {0}
  Agrees phase event.Go = Unit {0}
  Agrees phase (event.Cut count tear) = arm true ≡ true
  Agrees phase (event.Order text draw) =
      phase ≡ ratchet 1 → (state next : State) (answer : Reply) → OrderStep state text draw answer next → OrderStep (changed state) text draw answer (changed next)
  Agrees phase (event.Put layer name given) = Commutes phase layer (put_event layer name given) (put_event layer name (value layer name given))
  Agrees phase (event.Get layer name) = Commutes phase layer (get_event layer name) (get_event layer name)
  Agrees phase (event.Drop layer name) = Commutes phase layer (drop_event layer name) (drop_event layer name)
  Agrees phase (event.Sign layer key message) = Commutes phase layer (sign_event layer key message) (sign_event layer key message)
  Agrees phase (event.Call layer key input) = CallCommutes phase (record { layer = layer; key = key; input = input })

  abbrev seen_told : Told → Told
  seen_told told = (told.0, seen told.1)

  abbrev seen_on : Result (ℕ × State) Refusal → Result (ℕ × State) Refusal
  seen_on (Err refusal) = Err refusal
  seen_on (Ok on) = Ok (on.0, changed on.1)

  running_seen : (phase : Phase) (state : Option State) → running_state phase (option_map changed state) ≡ seen_on (running_state phase state)
  running_seen off state = refl
  running_seen dead state = refl
  running_seen (ratchet level) None = refl
  running_seen (ratchet level) (Some state) = refl

  told_if : (b : Bool) (x y : Told) → seen_told (if b then x else y) ≡ (if b then seen_told x else seen_told y)
  told_if true x y = refl
  told_if false x y = refl

  outcome_if : (b : Bool) (x y : Outcome) → seen_outcome (if b then x else y) ≡ (if b then seen_outcome x else seen_outcome y)
  outcome_if true x y = refl
  outcome_if false x y = refl

  boot_seen : (world : World) (phase : Phase) (state : Option State) → boot_event (seen world) phase (option_map changed state) ≡ seen_told (boot_event world phase state)
  boot_seen world off (Some state) = refl
  boot_seen world off None = refl
  boot_seen world dead state = refl
  boot_seen world (ratchet level) state = refl

  status_seen : (world : World) (on : Result (ℕ × State) Refusal) → status_event (seen world) (seen_on on) ≡ seen_told (status_event world on)
  unfolding status_of
  status_seen world (Err refusal) = refl
  status_seen world (Ok on) = refl

  go_seen : (world : World) (on : Result (ℕ × State) Refusal) → go_event (seen world) (seen_on on) ≡ seen_told (go_event world on)
  go_seen world (Err refusal) = refl
  go_seen world (Ok on) =
      let further : Told = (reply.At (on.0 + 1), record world { phase = ratchet (on.0 + 1) }) in
      let back : Told = (refusal_reply WrongLayer, world) in
      ap (λ (rest : Told). if nat_lt 2 on.0 then (refusal_reply WrongPhase, seen world) else rest) (sym (told_if (is_runnable on.1.layers (on.0 + 1)) further back))
      ∙ sym (told_if (nat_lt 2 on.0) (refusal_reply WrongPhase, world) (if is_runnable on.1.layers (on.0 + 1) then further else back))

  refused_if : (b c : Bool) (x y : Outcome) → b ≡ true → (if b || c then x else y) ≡ x
  refused_if true c x y is = refl
  refused_if false c x y is = absurd (grind (arith, is))

  on_region_seen : (level layer : ℕ) (does other : State → Outcome) (state : State)
      → (nat_lt layer level ≡ true) ⊎ (other (changed state) ≡ seen_outcome (does state))
      → on_region level layer other (changed state) ≡ seen_outcome (on_region level layer does state)
  on_region_seen level layer does other state (inl past) =
      let barred : Bool = not (is_runnable state.layers layer) in
      refused_if (nat_lt layer level) barred (refusal_reply WrongLayer, changed state) _ past
      ∙ ap seen_outcome (sym (refused_if (nat_lt layer level) barred (refusal_reply WrongLayer, state) _ past))
  on_region_seen level layer does other state (inr same) =
      let barred : Bool = nat_lt layer level || not (is_runnable state.layers layer) in
      let taken : Bool = takes_calls (code_in state.codes layer) in
      ap (λ (rest : Outcome). if barred then (refusal_reply WrongLayer, changed state) else if taken then (refusal_reply WrongCode, changed state) else rest) same
      ∙ ap (λ (rest : Outcome). if barred then (refusal_reply WrongLayer, changed state) else rest) (sym (outcome_if taken (refusal_reply WrongCode, state) (does state)))
      ∙ sym (outcome_if barred (refusal_reply WrongLayer, state) (if taken then (refusal_reply WrongCode, state) else does state))

  region_seen : (world : World) (layer : ℕ) (does other : State → Outcome) (on : Result (ℕ × State) Refusal) → running_state_in world ≡ on
      → Commutes world.phase layer does other → region_event (seen world) layer other (seen_on on) ≡ seen_told (region_event world layer does on)
  region_seen world layer does other (Err refusal) is commutes = refl
  region_seen world layer does other (Ok on) is commutes =
      let same : on_region on.0 layer other (changed on.1) ≡ seen_outcome (on_region on.0 layer does on.1) =
      on_region_seen on.0 layer does other on.1 (elim (commutes on.0 (awake_phase world.phase world.state on is)) [ inl past ↦ inl past | inr each ↦ inr (each on.1) ]) in
      ap {B = Told} (λ (outcome : Outcome). (outcome.0, record (seen world) { state = Some outcome.1 })) same

  of_told : (answer : Reply) (next : World) (told other : Told) → other ≡ seen_told told → ◌≡◌ {A = Told} (answer, next) told → ◌≡◌ {A = Told} (answer, seen next) other
  of_told answer next told other same e = ap seen_told e ∙ sym same

  of_world : (next other : World) → next ≡ other → seen next ≡ seen other
  of_world next other same = ap seen same

  command_seen : (world : World) (text draw : List ℕ) (on : Result (ℕ × State) Refusal) (answer : Reply) (next : World) → running_state_in world ≡ on
      → Agrees world.phase (event.Order text draw) → CommandStep world text draw on answer next → CommandStep (seen world) text draw (seen_on on) answer (seen next)
  command_seen world text draw (Err refusal) answer next is agrees x = (x.0, ap seen x.1)
  command_seen world text draw (Ok on) answer next is agrees (inl x) =
      let first : world.phase ≡ ratchet 1 = awake_phase world.phase world.state on is ∙ ap ratchet x.0 in
      inl (x.0, (changed x.1.0, agrees first on.1 x.1.0 answer x.1.1, ap seen x.1.2))
  command_seen world text draw (Ok on) answer next is agrees (inr x) = inr (x.0, x.1, ap seen x.2)

  -- a call is refused to both if a layer that runs is past it
  refused_past : (past barred : Bool) → past ≡ true → (past || barred) ≡ false → ⊥
  refused_past true barred is e = grind (arith, e)
  refused_past false barred is e = grind (arith, is)

  on_layer_seen : (level : ℕ) (call : Call) (state : State) (outcome : Outcome)
      → (nat_lt call.layer level ≡ true)
      ⊎ (WithCode state call (code_in state.codes call.layer) outcome → WithCode (changed state) call (code_in state.codes call.layer) (seen_outcome outcome))
      → OnLayer level call state outcome → OnLayer level call (changed state) (seen_outcome outcome)
  on_layer_seen level call state outcome commutes (inl barred) = inl (barred.0, ap seen_outcome barred.1)
  on_layer_seen level call state outcome (inl past) (inr free) =
      absurd (refused_past (nat_lt call.layer level) (not (is_runnable state.layers call.layer)) past free.0)
  on_layer_seen level call state outcome (inr each) (inr free) = inr (free.0, each free.1)

  call_seen : (world : World) (call : Call) (on : Result (ℕ × State) Refusal) (answer : Reply) (next : World) → running_state_in world ≡ on
      → CallCommutes world.phase call → CallTold world call on answer next → CallTold (seen world) call (seen_on on) answer (seen next)
  call_seen world call (Err refusal) answer next is commutes x = (x.0, ap seen x.1)
  call_seen world call (Ok on) answer next is commutes (outcome, at, told, follows) =
      let here = on_layer_seen on.0 call on.1 outcome
      (elim (commutes on.0 (awake_phase world.phase world.state on is)) [ inl past ↦ inl past | inr each ↦ inr (each on.1 outcome) ]) at in
      (seen_outcome outcome, here, told, ap seen follows)

  -- a region's event, whatever it is
  region_told : (world : World) (layer : ℕ) (does other : State → Outcome) (answer : Reply) (next : World) → Commutes world.phase layer does other
      → ◌≡◌ {A = Told} (answer, next) (region_event world layer does (running_state_in world))
      → ◌≡◌ {A = Told} (answer, seen next) (region_event (seen world) layer other (running_state_in (seen world)))
  region_told world layer does other answer next commutes x =
      of_told answer next (region_event world layer does (running_state_in world)) (region_event (seen world) layer other (running_state_in (seen world)))
      (ap (region_event (seen world) layer other) (running_seen world.phase world.state) ∙ region_seen world layer does other (running_state_in world) refl commutes) x

  pub machine_seen : (world : World) (this : Event) (answer : Reply) (next : World) → Agrees world.phase this → Machine world this answer next
      → Machine (seen world) (with_value this) answer (seen next)
  machine_seen world event.Boot answer next agrees x = of_told answer next (boot_event world world.phase world.state) _ (boot_seen world world.phase world.state) x
  machine_seen world event.Off answer next agrees x = (x.0, ap seen x.1)
  machine_seen world event.Tamper answer next agrees x = (x.0, ap seen x.1)
  machine_seen world (event.Cut count tear) answer next agrees x =
      (x.0, ap seen x.1 ∙ ap (λ (b : Bool). record (seen world) { armed = b }) agrees)
  machine_seen world event.Status answer next agrees x =
      of_told answer next (status_event world (running_state_in world)) _
      (ap (status_event (seen world)) (running_seen world.phase world.state) ∙ status_seen world (running_state_in world)) x
  machine_seen world (event.Order text draw) answer next agrees x =
      subst (λ (on : Result (ℕ × State) Refusal). CommandStep (seen world) text draw on answer (seen next)) (sym (running_seen world.phase world.state))
      (command_seen world text draw (running_state_in world) answer next refl agrees x)
  machine_seen world event.Go answer next agrees x =
      of_told answer next (go_event world (running_state_in world)) _
      (ap (go_event (seen world)) (running_seen world.phase world.state) ∙ go_seen world (running_state_in world)) x
  machine_seen world (event.Put layer name given) answer next agrees x =
      region_told world layer (put_event layer name given) (put_event layer name (value layer name given)) answer next agrees x
  machine_seen world (event.Get layer name) answer next agrees x = region_told world layer (get_event layer name) (get_event layer name) answer next agrees x
  machine_seen world (event.Drop layer name) answer next agrees x = region_told world layer (drop_event layer name) (drop_event layer name) answer next agrees x
  machine_seen world (event.Sign layer key message) answer next agrees x =
      region_told world layer (sign_event layer key message) (sign_event layer key message) answer next agrees x
  machine_seen world (event.Call layer key input) answer next agrees x =
      subst (λ (on : Result (ℕ × State) Refusal). CallTold (seen world) (record { layer = layer; key = key; input = input }) on answer (seen next)) (sym (running_seen world.phase world.state))
      (call_seen world _ (running_state_in world) answer next refl agrees x)

  wanted_same : (this : Event) → may_want_memory (with_value this) ≡ may_want_memory this
  wanted_same (event.Put layer name given) = refl
  wanted_same other = refl

  -- a step stays a step, if whether a power loss is armed stays
  pub step_seen : (world : World) (this : Event) (answer : Reply) (next : World) → ((b : Bool) → arm b ≡ b) → Agrees world.phase this → Step world this answer next
      → Step (seen world) (with_value this) answer (seen next)
  step_seen world this answer next stays agrees (machine_step x) = machine_step (machine_seen world this answer next agrees x)
  step_seen world this answer next stays agrees (lacks_memory p) = lacks_memory (record {
    answered = p.answered;
    wanted = subst IsTrue (sym (wanted_same this)) p.wanted;
    stays = ap seen p.stays;
  })
  step_seen world this answer next stays agrees (loses_power p) = loses_power (record {
    told = p.told;
    whole = seen p.whole;
    machine = machine_seen world this p.told p.whole agrees p.machine;
    armed = subst IsTrue (sym (stays world.armed)) p.armed;
    writes = p.writes;
    state = option_map changed p.state;
    counts = elim (p.counts) [ inl before ↦ inl (ap (option_map changed) before) | inr after ↦ inr (ap (option_map changed) after) ];
    answered = p.answered;
    follows = ap seen p.follows ∙ ap (λ (b : Bool). record (seen next) { state = option_map changed p.state; phase = off; armed = b }) (stays false);
  })

module _ (change : ℕ → Region → Region) (blank : (n : ℕ) → change n empty_region ≡ empty_region) where
  by_layer : (n : ℕ) (state : State) (two three : Bool) → (n == 2) ≡ two → (n == 3) ≡ three
      → (if two then change 2 state.two else if three then change 3 state.three else empty_region)
      ≡ change n (if two then state.two else if three then state.three else empty_region)
  by_layer n state true three is other = ap (λ (k : ℕ). change k state.two) (sym (is_equal n 2 is))
  by_layer n state false true is other = ap (λ (k : ℕ). change k state.three) (sym (is_equal n 3 other))
  by_layer n state false false is other = sym (blank n)

  -- a region of the changed state
  pub region_changed : (n : ℕ) (state : State) → region_of (record state { two = change 2 state.two; three = change 3 state.three }) n ≡ change n (region_of state n)
  region_changed n state = by_layer n state (n == 2) (n == 3) refl refl

module _ (change : ℕ → Region → Region) where
  slot : (n k : ℕ) (b : Bool) (new old : Region) → (n == k) ≡ b → (if b then change n new else change k old) ≡ change k (if b then new else old)
  slot n k true new old is = ap (λ (m : ℕ). change m new) (is_equal n k is)
  slot n k false new old is = refl

  -- the changed state with another region
  pub put_changed : (n : ℕ) (region : Region) (state : State)
      → with_region (record state { two = change 2 state.two; three = change 3 state.three }) n (change n region)
      ≡ record (with_region state n region) { two = change 2 (with_region state n region).two; three = change 3 (with_region state n region).three }
  put_changed n region state =
      ap (λ (r : Region). record state { two = r; three = if n == 3 then change n region else change 3 state.three }) (slot n 2 (n == 2) region state.two refl)
      ∙ ap (λ (r : Region). record state { two = change 2 (if n == 2 then region else state.two); three = r }) (slot n 3 (n == 3) region state.three refl)
