-- What targets bind, and how many orders a log has room for.
use Rattle.std.proofs.Common.{◌≡◌, ◌<◌, ◌≤◌, ℕ, ◌+◌, ◌-◌, zero, suc, List, [], ◌∷◌, ◌++◌, length, inl, inr, Option, None, Some, Bool, true, false, refl, sym, ap, ◌∙◌, subst, arith, length-append}
use Rattle.std.specs.Prelude.{◌==◌, ◌&&◌, not, All, Contains, IsTrue, Result, is_some, if◌then◌else◌}
use Rattle.std.proofs.lemmas.Bool.{cases_lt}
use Rattle.std.proofs.lemmas.List.Elements.{All-nil, All-cons, All-contains, All-weaker}
use Rattle.std.proofs.lemmas.List.Sums.{sum_by-append, sum_by-cons}
use Rattle.std.proofs.lemmas.Option.{same_Some}
use Rattle.mb_format.specs.Format.{Spells}
use Rattle.mb_model.specs.declared.event.Answered.{Answered}
use Rattle.mb_model.specs.declared.event.Event.{Event}
use Rattle.mb_model.specs.declared.event.Event.TheVariants as event
use Rattle.mb_model.specs.declared.key.PublicKey.{PublicKey}
use Rattle.mb_model.specs.declared.layer.Layer.{Layer}
use Rattle.mb_model.specs.declared.limits.TheConstants.{LAST_INDEX}
use Rattle.mb_model.specs.declared.order.Act.{Act}
use Rattle.mb_model.specs.declared.order.Act.TheVariants as act
use Rattle.mb_model.specs.declared.order.ChangeKind.TheVariants.{Load}
use Rattle.mb_model.specs.declared.order.Order.{Order}
use Rattle.mb_model.specs.declared.order.Target.{Target}
use Rattle.mb_model.specs.declared.order.Target.TheVariants.{Serial, Length}
use Rattle.mb_model.specs.declared.reply.Refusal.{Refusal}
use Rattle.mb_model.specs.declared.reply.Reply.{Reply}
use Rattle.mb_model.specs.declared.reply.Reply.TheVariants as reply
use Rattle.mb_model.specs.declared.state.State.{State}
use Rattle.mb_model.specs.owners.Layers.{layer_of, is_owned, is_layer_number}
use Rattle.mb_model.specs.chains.Listing.{is_done, replies_that}
use Rattle.mb_model.specs.owners.Log.{entries_of, number_of}
use Rattle.mb_model.specs.machine.Machine.{ratchet, World, opening_world, CommandStep, Step, machine_step, Run}
use Rattle.mb_model.specs.machine.OrderChecks.{view_of, change_by, needs_succession, entries_needed, IsCountersigned, LogHasRoom, RegionHasRoom, TargetHoldsIn, Passes}
use Rattle.mb_model.specs.machine.OrderEffects.{state_after_order}
use Rattle.mb_model.specs.records.OrderFormat.{order_body, order_format}
use Rattle.mb_model.specs.machine.OrderStep.{OrderStep, is_obeyed}
use Rattle.mb_model.specs.owners.Rules.{kind_of, change_of, is_load, layer_from_order, loaded_layer, signing_layer}
use Rattle.mb_model.specs.owners.Rules.{Condition}
use Rattle.mb_model.specs.machine.SignedTexts.{order_text, countersigned_text, IsSignedBy}
use Rattle.mb_model.proofs.Passed.{passed, passes_by}
use Rattle.mb_model_memory.proofs.CommitLemmas.{obeyed_serial}
use Rattle.mb_model_runs.proofs.GrowthLemmas.{logs_grow}
use Rattle.mb_model_runs.proofs.KeptByRuns.{IsKept, run_kept}
use Rattle.mb_model_runs.proofs.OfficerLemmas.{runs_first}
use Rattle.mb_model_histories.specs.Histories.{History, all_answered, ComesAfter}
use Rattle.mb_model_histories.specs.ObeyedOrders.{ObeysAt, Becomes, stays, is_ordered, is_distrusted}
use Rattle.mb_model_histories.specs.TargetLaws.{IsFreeLoad, FreeLoadsPassAgain, IsFilledFor, OneFreeLoadFillsTheLog}
use Rattle.mb_model_histories.proofs.HistoryLemmas.{runs_lead}
use Rattle.mb_model_histories.proofs.ObeyedLemmas.{and_false, ordered_longer, ordered_becomes, ordered_own}
use Rattle.mb_model_histories.proofs.StepLemmas.{Keeps, keeps, obeys, step_comes}

-- ---- lengths

-- a log is no shorter at the end of a run than at its start
run_long : (first last : World) (answered : List Answered) (a b : State) → Run first answered last → first.state ≡ Some a → last.state ≡ Some b → length a.log ≤ length b.log
run_long first last answered a b run is_a is_b =
    let grown = logs_grow first answered last run b is_b in
    let same : grown.0 ≡ a = same_Some grown.0 a (sym grown.1 ∙ is_a) in
    let whole : length b.log ≡ length grown.0.log + length grown.2.0 = ap length grown.2.1 ∙ length-append grown.0.log grown.2.0 in
    let start : length grown.0.log ≡ length a.log = ap (λ (s : State). length s.log) same in
    omega (arith, whole, start)

target_holds : (here next : World) (this : Event) (order : Order) (target : Target) → (by : ObeysAt here this next order) → Contains order.targets target → TargetHoldsIn (view_of by.before) target
target_holds here next this order target by within = All-contains (TargetHoldsIn (view_of by.before)) order.targets target (passed by.passes).targets within

pub length_targets_count_once : (here after there beyond : World) (this that : Event) (one other : Order) (n : ℕ)
    → ObeysAt here this after one → Contains one.targets (Length n) → ComesAfter there after → ObeysAt there that beyond other → Contains other.targets (Length n) → ⊥
length_targets_count_once here after there beyond this that one other n first of_one comes second of_other =
    let leads = runs_lead after there second.before comes second.was in
    let at_one : n ≡ length first.before.log = target_holds here after this one (Length n) first of_one in
    let at_other : n ≡ length second.before.log = target_holds there beyond that other (Length n) second of_other in
    let longer : length first.before.log < length (state_after_order first.before one first.draw).log = ordered_longer first.before one first.draw in
    let long : length (state_after_order first.before one first.draw).log ≤ length second.before.log
    = run_long after there leads.0 (state_after_order first.before one first.draw) second.before leads.1 first.is second.was in
    omega (arith, at_one, at_other, longer, long)

pub bound_orders_pass_once : (state : State) (order : Order) (draw : List ℕ) (n : ℕ) → Passes (view_of state) order → Contains order.targets (Length n)
    → Passes (view_of (state_after_order state order draw)) order → ⊥
bound_orders_pass_once state order draw n passes within again =
    let now : n ≡ length state.log = All-contains (TargetHoldsIn (view_of state)) order.targets (Length n) (passed passes).targets within in
    let later : n ≡ length (state_after_order state order draw).log = All-contains (TargetHoldsIn (view_of (state_after_order state order draw))) order.targets (Length n) (passed again).targets within in
    let longer : length state.log < length (state_after_order state order draw).log = ordered_longer state order draw in
    omega (arith, now, later, longer)

-- ---- serials

abbrev SameSerial : Option State → Option State → Type 0
SameSerial before None = Unit {0}
SameSerial None (Some after) = ⊥
SameSerial (Some before) (Some after) = after.serial ≡ before.serial

serial_same : (o : Option State) → SameSerial o o
serial_same None = tt
serial_same (Some state) = refl

serial_on : (a b c : Option State) → SameSerial a b → SameSerial b c → SameSerial a c
serial_on a b None x y = tt
serial_on a None (Some c) x y = absurd y
serial_on None (Some b) (Some c) x y = absurd x
serial_on (Some a) (Some b) (Some c) x y = y ∙ x

serial_kept : IsKept SameSerial
serial_kept = record {
  same = serial_same;
  dies = λ o. tt;
  secrets = λ state L secrets. refl;
  used = λ state L number. refl;
  called = λ state L secrets number. refl;
  order = obeyed_serial;
}

pub serials_stay : (first last : World) (answered : List Answered) (a b : State) → Run first answered last → first.state ≡ Some a → last.state ≡ Some b → b.serial ≡ a.serial
serials_stay first last answered a b run is_a is_b =
    let whole : SameSerial first.state last.state = run_kept SameSerial serial_kept serial_on first answered last run in
    subst (λ o. SameSerial o (Some b)) is_a (subst (SameSerial first.state) is_b whole)

pub serial_targets_name_the_device : (first here next : World) (this : Event) (order : Order) (state : State) (serial : List ℕ)
    → first.state ≡ Some state → ComesAfter here first → ObeysAt here this next order → Contains order.targets (Serial serial) → serial ≡ state.serial
serial_targets_name_the_device first here next this order state serial is comes by within =
    let leads = runs_lead first here by.before comes by.was in
    target_holds here next this order (Serial serial) by within ∙ serials_stay first here leads.0 state by.before leads.1 is by.was

-- ---- room

needs_some : (b : Bool) → 1 ≤ (if b then 2 else 1)
needs_some true = omega arith
needs_some false = omega arith

needs_two : (b : Bool) → (if b then 2 else 1) ≤ 2
needs_two true = omega arith
needs_two false = omega arith

-- an order that is obeyed finds room
finds_room : (state : State) (order : Order) → LogHasRoom (view_of state) order → length state.log < 128
finds_room state order has =
    let some : 1 ≤ (if needs_succession (view_of state) order then 2 else 1) = needs_some (needs_succession (view_of state) order) in
    omega (arith, has, some)

-- for how many entries the log of a live device has room
room : Option State → ℕ
room None = 0
room (Some state) = 128 - length state.log

kept_room : (a b : Option State) → Keeps a b → room b ≤ room a
unfolding room
kept_room a None kept = omega arith
kept_room None (Some after) kept = absurd kept
kept_room (Some before) (Some after) kept =
    let same : length after.log ≡ length before.log = ap (λ (s : State). length s.log) kept in
    omega (arith, same)

obeyed_room : (here next : World) (this : Event) (order : Order) → ObeysAt here this next order → room next.state + 1 ≤ room here.state
unfolding room
obeyed_room here next this order by =
    let longer : length by.before.log < length (state_after_order by.before order by.draw).log = ordered_longer by.before order by.draw in
    let fits : length by.before.log < 128 = finds_room by.before order (passed by.passes).log in
    let now : room next.state ≡ 128 - length (state_after_order by.before order by.draw).log = ap room by.is in
    let was : room here.state ≡ 128 - length by.before.log = ap room by.was in
    omega (arith, longer, fits, now, was)

abbrev one_if : Bool → ℕ
one_if b = if b then 1 else 0

-- one more answer counts at most one more, and none if it is not `done`
done_more : (this : Answered) (rest : List Answered) → replies_that is_done (this ∷ rest) ≡ one_if (is_done this.reply) + replies_that is_done rest
done_more this rest = sum_by-cons (λ (a : Answered). one_if (is_done a.reply)) this rest

at_most_one : (b : Bool) → one_if b ≤ 1
at_most_one true = omega arith
at_most_one false = omega arith

-- each order that is answered `done` takes room
few_done : (first last : World) (answered : List Answered) → Run first answered last → replies_that is_done answered + room last.state ≤ room first.state
few_done first last [] run =
    let same : room last.state ≡ room first.state = ap (λ (w : World). room w.state) run in
    omega (arith, same)
few_done first last (this ∷ rest) run =
    let later : replies_that is_done rest + room last.state ≤ room run.0.state = few_done run.0 last rest run.2 in
    elim (step_comes first this.event this.reply run.0 run.1) [
      | keeps kept undone ↦
          let less : room run.0.state ≤ room first.state = kept_room first.state run.0.state kept in
          let none : one_if (is_done this.reply) ≡ 0 = ap one_if undone in
          omega (arith, later, less, none, done_more this rest)
      | obeys order by ↦
          let less : room run.0.state + 1 ≤ room first.state = obeyed_room first run.0 this.event order by in
          let most : one_if (is_done this.reply) ≤ 1 = at_most_one (is_done this.reply) in
          omega (arith, later, less, most, done_more this rest)
    ]

done_both : (xs ys : List Answered) → replies_that is_done (xs ++ ys) ≡ replies_that is_done xs + replies_that is_done ys
done_both xs ys = sum_by-append (λ (a : Answered). one_if (is_done a.reply)) xs ys

few_in_history : (first last : Option State) (runs : List (List Answered)) → History first runs last → replies_that is_done (all_answered runs) + room last ≤ room first
few_in_history first last [] history =
    let same : room last ≡ room first = ap room history in
    omega (arith, same)
few_in_history first last (run ∷ runs) history =
    let now : replies_that is_done run + room history.0.state ≤ room first = few_done (opening_world first) history.0 run history.1 in
    let later : replies_that is_done (all_answered runs) + room last ≤ room history.0.state = few_in_history history.0.state last runs history.2 in
    omega (arith, now, later, done_both run (all_answered runs))

pub orders_are_few : (first last : Option State) (runs : List (List Answered)) (state : State) → first ≡ Some state → History first runs last
    → replies_that is_done (all_answered runs) ≤ 128 - length state.log
unfolding room
orders_are_few first last runs state is history =
    let few : replies_that is_done (all_answered runs) + room last ≤ room first = few_in_history first last runs history in
    let at : room first ≡ 128 - length state.log = ap room is in
    omega (arith, few, at)

pub full_logs_obey_nothing : (first here next : World) (this : Event) (order : Order) (state : State)
    → first.state ≡ Some state → 128 ≤ length state.log → ComesAfter here first → ObeysAt here this next order → ⊥
full_logs_obey_nothing first here next this order state is full comes by =
    let leads = runs_lead first here by.before comes by.was in
    let long : length state.log ≤ length by.before.log = run_long first here leads.0 state by.before leads.1 is by.was in
    let fits : length by.before.log < 128 = finds_room by.before order (passed by.passes).log in
    omega (arith, full, long, fits)

-- ---- loads that come again

-- what a load puts in place of a layer has the layer's owner
load_owner : (old : Layer) (a : Act) → IsTrue (is_load (change_of (kind_of a))) → (layer_from_order old a).owner ≡ old.owner
load_owner old (act.Establish owner trust) is = absurd (grind (arith, is))
load_owner old act.Surrender is = absurd (grind (arith, is))
load_owner old (act.Load payload) is = refl
load_owner old (act.Emergency payload) is = refl
load_owner old (act.NewKey kind) is = absurd (grind (arith, is))

owner_becomes : (state : State) (order : Order) (m : ℕ) (new : Layer) → IsTrue (is_load (change_by order)) → Becomes state order m new → new.owner ≡ (layer_of state.layers m).owner
owner_becomes state order m new load (stays same) = ap (λ (l : Layer). l.owner) same
owner_becomes state order m new load (is_ordered at signed is) = ap (λ (l : Layer). l.owner) is ∙ load_owner (layer_of state.layers m) order.act load
owner_becomes state order m new load (is_distrusted above is) = ap (λ (l : Layer). l.owner) is

module _ (state : State) (order : Order) (draw : List ℕ) (passes : Passes (view_of state) order) (load : IsTrue (is_load (change_by order))) where
  next : State
  next = state_after_order state order draw

  -- each layer has the same owner as before
  same_owner : (m : ℕ) → (layer_of next.layers m).owner ≡ (layer_of state.layers m).owner
  unfolding next
  same_owner m = owner_becomes state order m (layer_of next.layers m) load (ordered_becomes state order draw m (passed passes).signature)

  given_again : (a : Act) → order.act ≡ a → Condition state.layers (change_of (kind_of a)) order.layer → IsTrue (is_load (change_of (kind_of a))) → Condition next.layers (change_of (kind_of a)) order.layer
  unfolding next
  given_again (act.Establish owner trust) is may load = absurd (grind (arith, load))
  given_again act.Surrender is may load = absurd (grind (arith, load))
  given_again (act.Load payload) is may load =
      let number : IsTrue (is_layer_number order.layer) = grind (arith, may) in
      let own : layer_of next.layers order.layer ≡ loaded_layer (layer_of state.layers order.layer) payload =
      ordered_own state order draw Load number (ap (λ (x : Act). change_of (kind_of x)) is) ∙ ap (layer_from_order (layer_of state.layers order.layer)) is in
      let owned : is_owned next.layers order.layer ≡ is_owned state.layers order.layer = ap is_some (same_owner order.layer) in
      let reliable : (layer_of next.layers order.layer).reliable ≡ true = ap (λ (l : Layer). l.reliable) own in
      grind (arith, may, owned, reliable)
  given_again (act.Emergency payload) is may load =
      let owned : is_owned next.layers order.layer ≡ is_owned state.layers order.layer = ap is_some (same_owner order.layer) in
      let beneath : is_owned next.layers (order.layer - 1) ≡ is_owned state.layers (order.layer - 1) = ap is_some (same_owner (order.layer - 1)) in
      grind (arith, may, owned, beneath)
  given_again (act.NewKey kind) is may load = absurd (grind (arith, load))

  no_key_is_made : (a : Act) → IsTrue (is_load (change_of (kind_of a))) → RegionHasRoom (view_of next) order.layer a
  no_key_is_made (act.Establish owner trust) load = tt
  no_key_is_made act.Surrender load = tt
  no_key_is_made (act.Load payload) load = tt
  no_key_is_made (act.Emergency payload) load = tt
  no_key_is_made (act.NewKey kind) load = absurd (grind (arith, load))

  passes_again : order.targets ≡ [] → LogHasRoom (view_of next) order → Passes (view_of next) order
  unfolding next
  passes_again no_targets has_room = passes_by (record {
    targets = subst (All (TargetHoldsIn (view_of next))) (sym no_targets) (All-nil (TargetHoldsIn (view_of next)));
    condition = given_again order.act refl (passed passes).condition load;
    signature = subst (λ (owner : Option PublicKey). IsSignedBy owner (order_text (order_body order)) order.signature) (sym (same_owner (signing_layer (change_by order) order.layer))) (passed passes).signature;
    countersignatures = All-weaker (IsCountersigned (view_of state) order) (IsCountersigned (view_of next) order)
        (λ by signed. subst (λ (owner : Option PublicKey). IsSignedBy owner (countersigned_text by.layer (order_body order)) by.signature) (sym (same_owner by.layer)) signed)
        order.countersignatures (passed passes).countersignatures;
    log = has_room;
    keys = no_key_is_made order.act load;
  })

pub free_loads_pass_again : FreeLoadsPassAgain
unfolding next
free_loads_pass_again state order draw free has_room = passes_again state order draw free.passes free.load free.free has_room

-- ---- and fill the log

-- the log has no room for an order that needs this many entries
filled_for : (state : State) (order : Order) → 128 < length state.log + entries_needed (view_of state) order → IsFilledFor order state
filled_for state order no_room =
    let two : entries_needed (view_of state) order ≤ 2 = needs_two (needs_succession (view_of state) order) in
    record {
      no_room = λ has. omega (arith, no_room, has);
      nearly = omega (arith, no_room, two);
      wholly = λ renews_key.
          let none : needs_succession (view_of state) order ≡ false =
          ap (λ b. (view_of state).uses == LAST_INDEX && not b) renews_key ∙ and_false ((view_of state).uses == LAST_INDEX) in
          let one : entries_needed (view_of state) order ≡ 1 = ap (λ (b : Bool). if b then 2 else 1) none in
          omega (arith, no_room, one);
    }

-- a run that fills the log by these bytes
record IsFilling (here : World) (order : Order) (text draw : List ℕ) : Type 0 where
  answered : List Answered
  last : World
  full : State
  run : Run here answered last
  each : All (λ (this : Answered). (this.event ≡ event.Order text draw) × IsTrue (is_done this.reply)) answered
  is : last.state ≡ Some full
  filled : IsFilledFor order full

module _ (order : Order) (text draw : List ℕ) (spelled : Spells order_format text order) where
  given : State → Answered
  given after = record { event = event.Order text draw; reply = reply.Done (number_of (entries_of after.log)) (length after.log) }

  obeyed_step : (here : World) (state : State) → here.phase ≡ ratchet 1 → here.state ≡ Some state → Passes (view_of state) order
      → Step here (event.Order text draw) (given (state_after_order state order draw)).reply (record here { state = Some (state_after_order state order draw) })
  unfolding given
  obeyed_step here state at was passes =
      let after : State = state_after_order state order draw in
      let answer : Reply = (given after).reply in
      let step : OrderStep state text draw answer after = is_obeyed (record { order = order; spelled = spelled; passes = passes; follows = refl; answered = refl }) in
      machine_step (subst (λ (on : Result (ℕ × State) Refusal). CommandStep here text draw on answer (record here { state = Some after })) (sym (runs_first here state at was)) (inl (refl, (after, step, refl))))

  -- it is given once more
  fills_more : (here : World) (state : State) → here.phase ≡ ratchet 1 → here.state ≡ Some state → Passes (view_of state) order
      → IsFilling (record here { state = Some (state_after_order state order draw) }) order text draw → IsFilling here order text draw
  unfolding given
  fills_more here state at was passes later =
      let after : State = state_after_order state order draw in
      let Each : Answered → Type 0 = λ this. (this.event ≡ event.Order text draw) × IsTrue (is_done this.reply) in
      record {
        answered = given after ∷ later.answered;
        last = later.last;
        full = later.full;
        run = (record here { state = Some after }, obeyed_step here state at was passes, later.run);
        each = All-cons Each (given after) later.answered (refl, refl) later.each;
        is = later.is;
        filled = later.filled;
      }

  -- nothing is given any more
  given_no_more : (here : World) (state : State) → here.state ≡ Some state → 128 < length state.log + entries_needed (view_of state) order → IsFilling here order text draw
  given_no_more here state was no_room = record {
    answered = [];
    last = here;
    full = state;
    run = refl;
    each = All-nil (λ (this : Answered). (this.event ≡ event.Order text draw) × IsTrue (is_done this.reply));
    is = was;
    filled = filled_for state order no_room;
  }

  fills : (left : ℕ) (here : World) (state : State) → here.phase ≡ ratchet 1 → here.state ≡ Some state → IsFreeLoad state order → 128 ≤ length state.log + left → IsFilling here order text draw
  fills zero here state at was free close = absurd (omega (arith, close, finds_room state order (passed free.passes).log))
  fills (suc left) here state at was free close =
      let after : State = state_after_order state order draw in
      let there : World = record here { state = Some after } in
      let longer : length state.log < length after.log = ordered_longer state order draw in
      fills_more here state at was free.passes (elim (cases_lt 128 (length after.log + entries_needed (view_of after) order)) [
        | inl none ↦ given_no_more there after refl none
        | inr has ↦
            let again : IsFreeLoad after order = record { passes = free_loads_pass_again state order draw free has; free = free.free; load = free.load } in
            fills left there after at refl again (omega (arith, close, longer))
      ])

pub one_free_load_fills_the_log : OneFreeLoadFillsTheLog
one_free_load_fills_the_log here state order text draw at was spelled free =
    let full : IsFilling here order text draw = fills order text draw spelled 128 here state at was free (omega arith) in
    (full.answered, full.last, full.full, full.run, full.each, full.is, full.filled)
