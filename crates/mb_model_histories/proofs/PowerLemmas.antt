-- Power losses reach nothing new; what is told is determined.
use Rattle.std.proofs.Common.{◌≡◌, ℕ, List, [], ◌∷◌, ◌++◌, length, inl, inr, Option, Some, Bool, true, false, refl, sym, ap, subst, ◌∙◌, arith}
use Rattle.std.specs.Prelude.{◌⊎◌, IsTrue, map, not, Result, Ok, Err, if◌then◌else◌}
use Rattle.std.proofs.lemmas.Iterator.Adapters.{option_map_id}
use Rattle.std.proofs.lemmas.List.Elements.{All-head, All-tail}
use Rattle.mb_model.specs.declared.event.Answered.{Answered}
use Rattle.mb_model.specs.declared.event.Event.{Event}
use Rattle.mb_model.specs.declared.event.Event.TheVariants as event
use Rattle.mb_model.specs.declared.event.Tear.{Tear}
use Rattle.mb_model.specs.declared.region.Region.{Region}
use Rattle.mb_model.specs.declared.reply.Refusal.{Refusal}
use Rattle.mb_model.specs.declared.reply.Refusal.TheVariants.{WrongLayer, WrongCode}
use Rattle.mb_model.specs.declared.reply.Reply.{Reply}
use Rattle.mb_model.specs.declared.reply.Reply.TheVariants as reply
use Rattle.mb_model.specs.declared.state.State.{State}
use Rattle.mb_model.specs.machine.LayerEvents.{Outcome, code_in, takes_calls, with_secret, put_event}
use Rattle.mb_model.specs.machine.Machine.{Phase, ratchet, World, Told, opening_world, status_event, running_state_in, Machine, LosesPower, may_be_cut, Step, machine_step, lacks_memory, loses_power, Run}
use Rattle.mb_model.specs.owners.Layers.{is_runnable}
use Rattle.mb_model.specs.machine.Refusals.{refusal_reply}
use Rattle.mb_model.specs.owners.Regions.{empty_region}
use Rattle.mb_model_lemmas.specs.RefusalLaws.{BringsBytes}
use Rattle.mb_model_lemmas.proofs.LineLemmas.{cons_same}
use Rattle.mb_model_lemmas.proofs.RefusalLemmas.{machine_is_whole, machine_is_function}
use Rattle.mb_model_histories.specs.PowerLaws.{SmoothRun, unarmed_world, arms_power_loss, HasOwnAnswer, power_off, StandsInFor, stays_so, arms_none, lacks_none, off_before, off_after, IsSmoothed, PowerLossesReachNothingNew, ArmedWorldsAreNotReached, RunsAreDetermined, MemoryIsNotDetermined, OneChoiceACut, EitherIsLeft}
use Rattle.mb_model_histories.proofs.ChangeLemmas.{Agrees, seen, with_value, machine_seen}

-- ---- the machine does not look at whether a power loss is armed

abbrev same_region : ℕ → Region → Region
same_region n region = region

abbrev same_value : ℕ → List ℕ → List ℕ → List ℕ
same_value layer name value = value

abbrev never : Bool → Bool
never armed = false

unarmed_seen : (world : World) → seen same_region same_value never world ≡ unarmed_world world
unarmed_seen world = ap (λ (o : Option State). record (unarmed_world world) { state = o }) (option_map_id world.state)

same_event : (this : Event) → with_value same_region same_value never this ≡ this
same_event event.Boot = refl
same_event event.Off = refl
same_event event.Tamper = refl
same_event event.Status = refl
same_event event.Go = refl
same_event (event.Cut count tear) = refl
same_event (event.Order text draw) = refl
same_event (event.Put layer name value) = refl
same_event (event.Get layer name) = refl
same_event (event.Drop layer name) = refl
same_event (event.Sign layer key message) = refl
same_event (event.Call layer key input) = refl

agrees_unarmed : (phase : Phase) (this : Event) → arms_power_loss this ≡ false → Agrees same_region same_value never phase this
agrees_unarmed phase event.Boot free = tt
agrees_unarmed phase event.Off free = tt
agrees_unarmed phase event.Tamper free = tt
agrees_unarmed phase event.Status free = tt
agrees_unarmed phase event.Go free = tt
agrees_unarmed phase (event.Cut count tear) free = sym free
agrees_unarmed phase (event.Order text draw) free = λ first state next answer step. step
agrees_unarmed phase (event.Put layer name value) free = λ level at. inr (λ state. refl)
agrees_unarmed phase (event.Get layer name) free = λ level at. inr (λ state. refl)
agrees_unarmed phase (event.Drop layer name) free = λ level at. inr (λ state. refl)
agrees_unarmed phase (event.Sign layer key message) free = λ level at. inr (λ state. refl)
agrees_unarmed phase (event.Call layer key input) free = λ level at. inr (λ state outcome comes. comes)

machine_unarmed : (world : World) (this : Event) (answer : Reply) (next : World) → arms_power_loss this ≡ false → Machine world this answer next
    → Machine (unarmed_world world) this answer (unarmed_world next)
machine_unarmed world this answer next free x =
    let there = machine_seen same_region same_value never world this answer next (agrees_unarmed world.phase this free) x in
    subst (λ (e : Event). Machine (unarmed_world world) e answer (unarmed_world next)) (same_event this)
    (subst (λ (w : World). Machine w (with_value same_region same_value never this) answer (unarmed_world next)) (unarmed_seen world)
    (subst (λ (w : World). Machine (seen same_region same_value never world) (with_value same_region same_value never this) answer w) (unarmed_seen next) there))

-- ---- a step without power losses

-- what stands in for a step, with where it leads
abbrev Smooths : World → Answered → World → Type 0
Smooths world this next = (part : List Answered) × StandsInFor this part × SmoothRun (unarmed_world world) part (unarmed_world next)

is_told : (world : World) (this : Answered) (next : World) → Machine world this.event this.reply next → HasOwnAnswer this
is_told world this next x =
    let whole = machine_is_whole world this.event this.reply next x in
    record { found = whole.0; held = whole.1 }

arms_only : (world next : World) (this : Event) (answer : Reply) → arms_power_loss this ≡ true → Machine world this answer next → (answer ≡ reply.Armed) × (next ≡ record world { armed = true })
arms_only world next event.Boot answer e x = absurd (grind (arith, e))
arms_only world next event.Off answer e x = absurd (grind (arith, e))
arms_only world next event.Tamper answer e x = absurd (grind (arith, e))
arms_only world next event.Status answer e x = absurd (grind (arith, e))
arms_only world next event.Go answer e x = absurd (grind (arith, e))
arms_only world next (event.Cut count tear) answer e x = x
arms_only world next (event.Order text draw) answer e x = absurd (grind (arith, e))
arms_only world next (event.Put layer name value) answer e x = absurd (grind (arith, e))
arms_only world next (event.Get layer name) answer e x = absurd (grind (arith, e))
arms_only world next (event.Drop layer name) answer e x = absurd (grind (arith, e))
arms_only world next (event.Sign layer key message) answer e x = absurd (grind (arith, e))
arms_only world next (event.Call layer key input) answer e x = absurd (grind (arith, e))

machine_smooth : (world : World) (this : Answered) (next : World) → Machine world this.event this.reply next → Smooths world this next
machine_smooth world this next x = by (arms_power_loss this.event) refl
  where
    by : (b : Bool) → arms_power_loss this.event ≡ b → (part : List Answered) × StandsInFor this part × SmoothRun (unarmed_world world) part (unarmed_world next)
    by true is = ([], arms_none is, ap unarmed_world (arms_only world next this.event this.reply is x).1)
    by false is = (this ∷ [], stays_so (is_told world this next x) is, (unarmed_world next, machine_unarmed world this.event this.reply next is x, refl))

-- an event that writes arms no power loss
writes_free : (world : World) (this : Event) (told : Reply) (whole : World) → IsTrue (may_be_cut told) → Machine world this told whole → arms_power_loss this ≡ false
writes_free world this told whole writes x = by (arms_power_loss this) refl
  where
    by : (b : Bool) → arms_power_loss this ≡ b → b ≡ false
    by false is = refl
    by true is =
        let clash : IsTrue (may_be_cut reply.Armed) = subst (λ (r : Reply). IsTrue (may_be_cut r)) (arms_only world whole this told is x).0 writes in
        absurd (grind (arith, clash))

step_smooth : (world : World) (this : Answered) (next : World) → Step world this.event this.reply next → Smooths world this next
step_smooth world this next (machine_step x) = machine_smooth world this next x
step_smooth world this next (lacks_memory p) = ([], lacks_none p.answered, ap unarmed_world p.stays)
step_smooth world this next (loses_power p) = elim (p.counts) [
  | inl before ↦ (
    power_off ∷ [],
    off_before p.answered,
    (opening_world world.state, (refl, refl), ap unarmed_world p.follows ∙ ap opening_world before),
  )
  | inr after ↦ (
    record this { reply = p.told } ∷ power_off ∷ [],
    off_after p.answered p.told p.writes,
    (
      unarmed_world p.whole,
      machine_unarmed world this.event p.told p.whole (writes_free world this.event p.told p.whole p.writes p.machine) p.machine,
      (opening_world p.whole.state, (refl, refl), ap unarmed_world p.follows ∙ ap opening_world after),
    ),
  )
]

smooth_joined : (world mid next : World) (part more : List Answered) → SmoothRun world part mid → SmoothRun mid more next → SmoothRun world (part ++ more) next
smooth_joined world mid next [] more run rest = subst (λ (w : World). SmoothRun w more next) run rest
smooth_joined world mid next (this ∷ part) more run rest = (run.0, run.1, smooth_joined run.0 mid next part more run.2 rest)

pub power_losses_reach_nothing_new : PowerLossesReachNothingNew
power_losses_reach_nothing_new world next [] run = ([], refl, ap unarmed_world run)
power_losses_reach_nothing_new world next (this ∷ rest) run = by (step_smooth world this run.0 run.1) (power_losses_reach_nothing_new run.0 next rest run.2)
  where
    by : Smooths world this run.0 → (smooth : List Answered) × IsSmoothed rest smooth × SmoothRun (unarmed_world run.0) smooth (unarmed_world next)
        → (smooth : List Answered) × IsSmoothed (this ∷ rest) smooth × SmoothRun (unarmed_world world) smooth (unarmed_world next)
    by step more = (
      step.0 ++ more.0,
      (step.0, more.0, step.1, more.1, refl),
      smooth_joined (unarmed_world world) (unarmed_world run.0) (unarmed_world next) step.0 more.0 step.2 more.2,
    )

-- ---- what is determined

own_step : (world : World) (this : Answered) (next : World) → HasOwnAnswer this → Step world this.event this.reply next → Machine world this.event this.reply next
own_step world this next told (machine_step x) = x
own_step world this next told (lacks_memory p) = absurd (told.found p.answered)
own_step world this next told (loses_power p) = absurd (told.held p.answered)

pub runs_are_determined : RunsAreDetermined
runs_are_determined world m n [] [] are same told also run other = (refl, run ∙ sym other)
runs_are_determined world m n [] (that ∷ others) are same told also run other = absurd (grind (arith, same))
runs_are_determined world m n (this ∷ rest) [] are same told also run other = absurd (grind (arith, same))
runs_are_determined world m n (this ∷ rest) (that ∷ others) are same told also run other =
    let events = cons_same this.event that.event (map (λ a. a.event) rest) (map (λ a. a.event) others) same in
    let first : Machine world this.event this.reply run.0 = own_step world this run.0 (All-head HasOwnAnswer this rest told) run.1 in
    let second : Machine world that.event that.reply other.0 = own_step world that other.0 (All-head HasOwnAnswer that others also) other.1 in
    let again : Machine world this.event that.reply other.0 = subst (λ (e : Event). Machine world e that.reply other.0) (sym events.0) second in
    let one = machine_is_function world this.event this.reply that.reply run.0 other.0 (All-head (λ a. BringsBytes a.event) this rest are) first again in
    let moved : Run run.0 others n = subst (λ (w : World). Run w others n) (sym one.1) other.2 in
    let more = runs_are_determined run.0 m n rest others (All-tail (λ a. BringsBytes a.event) this rest are) events.1 (All-tail HasOwnAnswer this rest told) (All-tail HasOwnAnswer that others also) run.2 moved in
    let alike : this ≡ that = ap (λ (e : Event). record this { event = e }) events.0 ∙ ap (λ (r : Reply). record that { reply = r }) one.0 in
    (ap (λ (a : Answered). a ∷ rest) alike ∙ ap (λ (list : List Answered). that ∷ list) more.0, more.1)

status_world : (world : World) (on : Result (ℕ × State) Refusal) → (status_event world on).1 ≡ world
status_world world (Err refusal) = refl
status_world world (Ok on) = refl

pub memory_is_not_determined : MemoryIsNotDetermined
memory_is_not_determined world =
    let told : Told = status_event world (running_state_in world) in
    let own : Machine world event.Status told.0 world = ap {B = Told} (λ (w : World). (told.0, w)) (sym (status_world world (running_state_in world))) in (
      told.0,
      (machine_is_whole world event.Status told.0 world own).0,
      machine_step own,
      lacks_memory (record { answered = refl; wanted = refl; stays = refl }),
    )

cut_left : (world left : World) (this : Event) → (p : LosesPower world this reply.Stopped left) → (whole : World) → whole ≡ p.whole
    → (left ≡ opening_world world.state) ⊎ (left ≡ opening_world whole.state)
cut_left world left this p whole same = elim (p.counts) [
  | inl before ↦ inl (p.follows ∙ ap opening_world before)
  | inr after ↦ inr (p.follows ∙ ap opening_world after ∙ sym (ap (λ (w : World). opening_world w.state) same))
]

module _ (world : World) (this : Event) (are : BringsBytes this) (next : World) (p : LosesPower world this reply.Stopped next) where
  is_one : (left : World) → Step world this reply.Stopped left → (left ≡ opening_world world.state) ⊎ (left ≡ opening_world p.whole.state)
  is_one left (machine_step x) = absurd ((machine_is_whole world this reply.Stopped left x).1 refl)
  is_one left (lacks_memory q) = absurd (grind (arith, q.answered))
  is_one left (loses_power q) = cut_left world left this q p.whole (machine_is_function world this p.told q.told p.whole q.whole are p.machine q.machine).1

  each_is : (left : World) → (left ≡ opening_world world.state) ⊎ (left ≡ opening_world p.whole.state) → Step world this reply.Stopped left
  each_is left (inl before) = loses_power (record {
    told = p.told;
    whole = p.whole;
    machine = p.machine;
    armed = p.armed;
    writes = p.writes;
    state = world.state;
    counts = inl refl;
    answered = refl;
    follows = before;
  })
  each_is left (inr after) = loses_power (record {
    told = p.told;
    whole = p.whole;
    machine = p.machine;
    armed = p.armed;
    writes = p.writes;
    state = p.whole.state;
    counts = inr refl;
    answered = refl;
    follows = after;
  })

pub one_choice_a_cut : OneChoiceACut
one_choice_a_cut world next this are (machine_step x) = absurd ((machine_is_whole world this reply.Stopped next x).1 refl)
one_choice_a_cut world next this are (lacks_memory p) = absurd (grind (arith, p.answered))
one_choice_a_cut world next this are (loses_power p) =
    (p.told, p.whole, p.machine, λ left. (is_one world this are next p left, each_is world this are next p left))

-- ---- both are left

pub put_in_empty : (runs taken : Bool) (state : State) (name value : List ℕ) → runs ≡ true → taken ≡ false
    → let empty : State = record state { two = empty_region } in
    (if not runs then (refusal_reply WrongLayer, empty) else if taken then (refusal_reply WrongCode, empty) else put_event 2 name value empty) ≡ put_event 2 name value empty
put_in_empty true false state name value is unsealed = refl
put_in_empty true true state name value is unsealed = absurd (grind (arith, unsealed))
put_in_empty false taken state name value is unsealed = absurd (grind (arith, is))

pub either_is_left : EitherIsLeft
unfolding put_event with_secret
either_is_left state name value runs unsealed =
    let before : State = record state { two = empty_region } in
    let world : World = record { state = Some before; phase = ratchet 1; armed = true } in
    let after : State = (put_event 2 name value before).1 in
    let whole : World = record world { state = Some after } in
    let machine : Machine world (event.Put 2 name value) reply.Kept whole =
    ap {B = Told} (λ (outcome : Outcome). (outcome.0, record world { state = Some outcome.1 })) (sym (put_in_empty (is_runnable state.layers 2) (takes_calls (code_in state.codes 2)) state name value runs unsealed)) in (
      after,
      λ same. absurd (omega (arith, ap (λ (s : State). length s.two.secrets) same)),
      loses_power (record { told = reply.Kept; whole = whole; machine = machine; armed = refl; writes = refl; state = Some before; counts = inl refl; answered = refl; follows = refl }),
      loses_power (record { told = reply.Kept; whole = whole; machine = machine; armed = refl; writes = refl; state = Some after; counts = inr refl; answered = refl; follows = refl }),
    )

-- ---- an armed power loss

-- the event `cut`, as it is answered
cut_answered : ℕ → Tear → Answered
cut_answered count tear = record { event = event.Cut count tear; reply = reply.Armed }

stays_unarmed : (state : Option State) (smooth : List Answered) → smooth ≡ [] → SmoothRun (opening_world state) smooth (record (opening_world state) { armed = true }) → ⊥
stays_unarmed state smooth none run =
    let same : record (opening_world state) { armed = true } ≡ opening_world state = subst (λ (l : List Answered). SmoothRun (opening_world state) l (record (opening_world state) { armed = true })) none run in
    let clash : true ≡ false = ap (λ (w : World). w.armed) same in
    absurd (grind (arith, clash))

nothing_stands : (count : ℕ) (tear : Tear) (part : List Answered) → StandsInFor (cut_answered count tear) part → part ≡ []
unfolding cut_answered
nothing_stands count tear part (stays_so own free) = absurd (grind (arith, free))
nothing_stands count tear part (arms_none arms) = refl
nothing_stands count tear part (lacks_none told) = refl
nothing_stands count tear part (off_before told) = absurd (grind (arith, told))
nothing_stands count tear part (off_after told whole may) = absurd (grind (arith, told))

pub armed_worlds_are_not_reached : ArmedWorldsAreNotReached
unfolding cut_answered
armed_worlds_are_not_reached state count tear = (
  (record (opening_world state) { armed = true }, machine_step (refl, refl), refl),
  λ smooth (part, more, stands, none, whole) run.
      stays_unarmed state smooth (whole ∙ ap (λ (l : List Answered). l ++ more) (nothing_stands count tear part stands) ∙ none) run,
)
