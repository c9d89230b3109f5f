-- Owners stay, but by their own order.
use Rattle.std.proofs.Common.{◌≡◌, ◌≢◌, ◌<◌, ◌≤◌, ◌⊎◌, ℕ, List, [], ◌∷◌, length, inl, inr, Option, None, Some, true, false, refl, sym, ap, ◌∙◌, subst, arith}
use Rattle.std.specs.Prelude.{Contains, IsTrue, IsSome, is_some}
use Rattle.std.proofs.lemmas.Option.{same_Some}
use Rattle.mb_model.specs.declared.event.Answered.{Answered}
use Rattle.mb_model.specs.declared.event.Event.{Event}
use Rattle.mb_model.specs.declared.key.PublicKey.{PublicKey}
use Rattle.mb_model.specs.declared.layer.Layer.{Layer}
use Rattle.mb_model.specs.declared.layer.Layers.{Layers}
use Rattle.mb_model.specs.declared.order.Act.{Act}
use Rattle.mb_model.specs.declared.order.Act.TheVariants as act
use Rattle.mb_model.specs.declared.order.Order.{Order}
use Rattle.mb_model.specs.declared.region.Region.{Region}
use Rattle.mb_model.specs.declared.reply.Reply.{Reply}
use Rattle.mb_model.specs.declared.reply.Reply.TheVariants as reply
use Rattle.mb_model.specs.declared.state.State.{State}
use Rattle.mb_model.specs.owners.Layers.{layer_of, is_upper, is_owned, IsLayer, IsLayers}
use Rattle.mb_model.specs.owners.Log.{entries_of, last_of, layers_of}
use Rattle.mb_model.specs.machine.Machine.{World, Step, Run}
use Rattle.mb_model.specs.signatures.Merkle.{Verifies}
use Rattle.mb_model.specs.machine.OrderChecks.{view_of, IsSigned}
use Rattle.mb_model.specs.machine.OrderEffects.{state_after_order}
use Rattle.mb_model.specs.records.OrderFormat.{order_body}
use Rattle.mb_model.specs.owners.Regions.{empty_region, region_of}
use Rattle.mb_model.specs.owners.Rules.{kind_of, change_of, Condition, layer_from_order, signing_layer}
use Rattle.mb_model.specs.machine.SignedTexts.{order_text, IsSignedBy}
use Rattle.mb_model.specs.memories.Valid.{IsValidState, Valid}
use Rattle.mb_model.proofs.Passed.{passed}
use Rattle.mb_model_lemmas.proofs.RegionLemmas.{at_upper}
use Rattle.mb_model_lemmas.proofs.RuleLemmas.{ruled_are_layers}
use Rattle.mb_model_lemmas.proofs.ValidStates.{valid_is_ruled, region_is_valid}
use Rattle.mb_model_lemmas.proofs.ListLemmas.{contains_none}
use Rattle.mb_model_runs.proofs.StatementLemmas.{some_log}
use Rattle.mb_model_histories.specs.Histories.{ComesAfter, in_this_run, in_a_later_run}
use Rattle.mb_model_histories.specs.ObeyedOrders.{ObeysAt, KeepsAllButRegions, Becomes, stays, is_ordered, is_distrusted}
use Rattle.mb_model_histories.specs.OwnerLaws.{code_of, ObeyedOrdersAreLogged, GaveUp, NobodyOwnsBeforeTheBirth}
use Rattle.mb_model_histories.proofs.HistoryLemmas.{lives_before, runs_lead}
use Rattle.mb_model_histories.proofs.ObeyedLemmas.{ordered_longer, ordered_becomes, ordered_code}
use Rattle.mb_model_histories.proofs.SinceLemmas.{secret_upper}
use Rattle.mb_model_histories.proofs.StepLemmas.{Keeps, keeps, obeys, step_comes}

-- ---- one step

live_keeps : (o p : Option State) (before after : State) → Keeps o p → o ≡ Some before → p ≡ Some after → KeepsAllButRegions before after
live_keeps o p before after kept is now = subst (λ q. Keeps q (Some after)) is (subst (Keeps o) now kept)

pub only_orders_change : (here next : World) (this : Event) (answer : Reply) (before after : State) → Step here this answer next → here.state ≡ Some before → next.state ≡ Some after
    → KeepsAllButRegions before after ⊎ ((order : Order) × ObeysAt here this next order)
only_orders_change here next this answer before after step is now =
    elim (step_comes here this answer next step) [
      | keeps kept undone ↦ inl (live_keeps here.state next.state before after kept is now)
      | obeys order by ↦ inr (order, by)
    ]

pub done_is_obeyed : (here next : World) (this : Event) (number size : ℕ) → Step here this (reply.Done number size) next → (order : Order) × ObeysAt here this next order
done_is_obeyed here next this number size step =
    elim (step_comes here this (reply.Done number size) next step) [
      | keeps kept undone ↦ absurd (grind (arith, undone))
      | obeys order by ↦ (order, by)
    ]

pub orders_change_their_layer : (here next : World) (this : Event) (order : Order) (after : State) (layer : ℕ) (obeyed : ObeysAt here this next order) → next.state ≡ Some after
    → Becomes obeyed.before order layer (layer_of after.layers layer)
orders_change_their_layer here next this order after layer obeyed now =
    let same : state_after_order obeyed.before order obeyed.draw ≡ after = same_Some (state_after_order obeyed.before order obeyed.draw) after (sym obeyed.is ∙ now) in
    subst (λ (s : State). Becomes obeyed.before order layer (layer_of s.layers layer)) same (ordered_becomes obeyed.before order obeyed.draw layer (passed obeyed.passes).signature)

-- ---- owners

-- an order gives its layer's owner up: it is one of surrender, of an upper layer, and the owner signed it
abbrev GivesUp : Order → ℕ → PublicKey → Type 0
GivesUp order layer owner =
    (order.act ≡ act.Surrender) × (order.layer ≡ layer) × IsTrue (is_upper layer) × Verifies owner (order_text (order_body order)) order.signature

-- of an owned layer, what an order puts in its place has the same owner, if it is none of surrender
owner_placed : (state : State) (order : Order) (a : Act) (owner : PublicKey) → order.act ≡ a → (layer_of state.layers order.layer).owner ≡ Some owner
    → Condition state.layers (change_of (kind_of a)) order.layer
    → IsSignedBy (layer_of state.layers (signing_layer (change_of (kind_of a)) order.layer)).owner (order_text (order_body order)) order.signature
    → ((layer_from_order (layer_of state.layers order.layer) a).owner ≡ Some owner) ⊎ GivesUp order order.layer owner
owner_placed state order (act.Establish new trust) owner is owned may signed =
    let has : is_owned state.layers order.layer ≡ true = ap is_some owned in
    absurd (grind (arith, may, has))
owner_placed state order act.Surrender owner is owned may signed =
    inr (is, refl, grind (arith, may), subst (λ (o : Option PublicKey). IsSignedBy o (order_text (order_body order)) order.signature) owned signed)
owner_placed state order (act.Load payload) owner is owned may signed = inl owned
owner_placed state order (act.Emergency payload) owner is owned may signed = inl owned
owner_placed state order (act.NewKey kind) owner is owned may signed = inl owned

owner_after : (state : State) (order : Order) (layer : ℕ) (new : Layer) (owner : PublicKey) → Becomes state order layer new → (layer_of state.layers layer).owner ≡ Some owner
    → Condition state.layers (change_of (kind_of order.act)) order.layer → IsSigned (view_of state) order
    → (new.owner ≡ Some owner) ⊎ GivesUp order layer owner
owner_after state order layer new owner (stays same) owned may signed = inl (ap (λ (l : Layer). l.owner) same ∙ owned)
owner_after state order layer new owner (is_distrusted above same) owned may signed = inl (ap (λ (l : Layer). l.owner) same ∙ owned)
owner_after state order layer new owner (is_ordered at by same) owned may signed =
    let own : (layer_of state.layers order.layer).owner ≡ Some owner = ap (λ n. (layer_of state.layers n).owner) (sym at) ∙ owned in
    let placed : new ≡ layer_from_order (layer_of state.layers order.layer) order.act = same ∙ ap (λ n. layer_from_order (layer_of state.layers n) order.act) at in
    elim (owner_placed state order order.act owner refl own may signed) [
      | inl stays_so ↦ inl (ap (λ (l : Layer). l.owner) placed ∙ stays_so)
      | inr gives ↦ inr (subst (λ n. GivesUp order n owner) (sym at) gives)
    ]

-- ---- runs

upper_is_two : (layer : ℕ) → IsTrue (is_upper layer) → 2 ≤ layer
upper_is_two layer is = grind (arith, is)

gave_first : (first mid last : World) (this : Answered) (rest : List Answered) (layer : ℕ) (owner : PublicKey) (order : Order)
    → ObeysAt first this.event mid order → Run mid rest last → GivesUp order layer owner → GaveUp first last layer owner
gave_first first mid last this rest layer owner order obeyed run gives = record {
  here = first;
  this = this.event;
  after = mid;
  order = order;
  before = in_this_run [] refl;
  obeyed = obeyed;
  later = in_this_run rest run;
  surrenders = gives.0;
  of_layer = gives.1;
  signed = gives.3;
}

-- one more event comes before
pub step_before : (first mid there : World) (this : Answered) → Step first this.event this.reply mid → ComesAfter there mid → ComesAfter there first
step_before first mid there this step (in_this_run answered run) = in_this_run (this ∷ answered) (mid, step, run)
step_before first mid there this step (in_a_later_run answered end run later) = in_a_later_run (this ∷ answered) end (mid, step, run) later

gave_later : (first mid last : World) (this : Answered) (layer : ℕ) (owner : PublicKey) → Step first this.event this.reply mid → GaveUp mid last layer owner → GaveUp first last layer owner
gave_later first mid last this layer owner step gave = record {
  here = gave.here;
  this = gave.this;
  after = gave.after;
  order = gave.order;
  before = step_before first mid gave.here this step gave.before;
  obeyed = gave.obeyed;
  later = gave.later;
  surrenders = gave.surrenders;
  of_layer = gave.of_layer;
  signed = gave.signed;
}

stay_over_run : (first last : World) (answered : List Answered) (a b : State) (layer : ℕ) (owner : PublicKey) → Run first answered last → first.state ≡ Some a → last.state ≡ Some b
    → (layer_of a.layers layer).owner ≡ Some owner → ((layer_of b.layers layer).owner ≡ Some owner) ⊎ ((2 ≤ layer) × GaveUp first last layer owner)
stay_over_run first last [] a b layer owner run is_a is_b owned =
    let same : a ≡ b = same_Some a b (sym is_a ∙ sym (ap (λ (w : World). w.state) run) ∙ is_b) in
    inl (subst (λ (s : State). (layer_of s.layers layer).owner ≡ Some owner) same owned)
stay_over_run first last (this ∷ rest) a b layer owner run is_a is_b owned =
    let between = lives_before run.0 last rest b run.2 is_b in
    let mid : State = between.0 in
    let go_on : (layer_of mid.layers layer).owner ≡ Some owner → ((layer_of b.layers layer).owner ≡ Some owner) ⊎ ((2 ≤ layer) × GaveUp first last layer owner) =
    λ still. elim (stay_over_run run.0 last rest mid b layer owner run.2 between.1 is_b still) [
      | inl stayed ↦ inl stayed
      | inr gave ↦ inr (gave.0, gave_later first run.0 last this layer owner run.1 gave.1)
    ] in
    elim (only_orders_change first run.0 this.event this.reply a mid run.1 is_a between.1) [
      | inl kept ↦ go_on (ap (λ (s : State). (layer_of s.layers layer).owner) kept ∙ owned)
      | inr ordered ↦
          let by : ObeysAt first this.event run.0 ordered.0 = ordered.1 in
          let same : a ≡ by.before = same_Some a by.before (sym is_a ∙ by.was) in
          let own : (layer_of by.before.layers layer).owner ≡ Some owner = ap (λ (s : State). (layer_of s.layers layer).owner) (sym same) ∙ owned in
          elim (owner_after by.before ordered.0 layer (layer_of mid.layers layer) owner (orders_change_their_layer first run.0 this.event ordered.0 mid layer by between.1) own (passed by.passes).condition (passed by.passes).signature) [
            | inl still ↦ go_on still
            | inr gives ↦ inr (upper_is_two layer gives.2, gave_first first run.0 last this rest layer owner ordered.0 by run.2 gives)
          ]
    ]

pub owners_stay : (first last : World) (a b : State) (layer : ℕ) (owner : PublicKey) → ComesAfter last first → first.state ≡ Some a → last.state ≡ Some b
    → (layer_of a.layers layer).owner ≡ Some owner → ((layer_of b.layers layer).owner ≡ Some owner) ⊎ ((2 ≤ layer) × GaveUp first last layer owner)
owners_stay first last a b layer owner after is_a is_b owned =
    let leads = runs_lead first last b after is_b in
    stay_over_run first last leads.0 a b layer owner leads.1 is_a is_b owned

some_owner : (o : Option PublicKey) → IsSome o → (owner : PublicKey) × (o ≡ Some owner)
some_owner None is = absurd (grind (arith, is))
some_owner (Some owner) is = (owner, refl)

-- a valid device has an owner of layer 1
valid_owned : (state : State) → IsValidState state → IsSome state.layers.one.owner
valid_owned state valid =
    let are : IsLayers (layers_of (entries_of state.log)) = ruled_are_layers (entries_of state.log) (valid_is_ruled state valid) (some_log state valid) in
    subst (λ (layers : Layers). IsSome layers.one.owner) (sym valid.layers) are.owned

pub owner_of_layer_one_stays : (first last : World) (a b : State) → Valid first.state → ComesAfter last first → first.state ≡ Some a → last.state ≡ Some b
    → b.layers.one.owner ≡ a.layers.one.owner
owner_of_layer_one_stays first last a b valid after is_a is_b =
    let own = some_owner a.layers.one.owner (valid_owned a (subst Valid is_a valid)) in
    elim (owners_stay first last a b 1 own.0 after is_a is_b own.1) [
      | inl stayed ↦ stayed ∙ sym own.1
      | inr gave ↦ absurd (omega (arith, gave.0))
    ]

-- ---- code

pub orders_leave_other_code : (here next : World) (this : Event) (order : Order) (after : State) (layer : ℕ) (obeyed : ObeysAt here this next order) → next.state ≡ Some after → layer ≢ order.layer
    → code_of after.codes layer ≡ code_of obeyed.before.codes layer
orders_leave_other_code here next this order after layer obeyed now other =
    let same : state_after_order obeyed.before order obeyed.draw ≡ after = same_Some (state_after_order obeyed.before order obeyed.draw) after (sym obeyed.is ∙ now) in
    subst (λ (s : State). code_of s.codes layer ≡ code_of obeyed.before.codes layer) same (ordered_code obeyed.before order obeyed.draw layer other)

-- ---- what excludes the other

pub obeyed_orders_are_logged : ObeyedOrdersAreLogged
obeyed_orders_are_logged here next this order before after by was is =
    let left : State = state_after_order by.before order by.draw in
    let sooner : by.before ≡ before = same_Some by.before before (sym by.was ∙ was) in
    let later : left ≡ after = same_Some left after (sym by.is ∙ is) in
    let longer : length by.before.log < length left.log = ordered_longer by.before order by.draw in
    let short : length by.before.log ≡ length before.log = ap (λ (s : State). length s.log) sooner in
    let long : length left.log ≡ length after.log = ap (λ (s : State). length s.log) later in
    omega (arith, longer, short, long)

-- before the birth no layer has an owner
unborn : (layer : ℕ) → IsTrue (is_upper layer) → (layer_of (layers_of []) layer).owner ≡ None
unfolding layers_of last_of
unborn layer upper = at_upper (λ m. (layer_of (layers_of []) m).owner ≡ None) layer upper refl refl

pub nobody_owns_before_the_birth : NobodyOwnsBeforeTheBirth
nobody_owns_before_the_birth state layer secret valid within same =
    let upper : IsTrue (is_upper layer) = secret_upper state layer secret within in
    let are : IsLayers (layers_of (entries_of state.log)) = ruled_are_layers (entries_of state.log) (valid_is_ruled state valid) (some_log state valid) in
    let each : IsLayer (layer_of (layers_of (entries_of state.log)) layer) =
    at_upper (λ m. IsLayer (layer_of (layers_of (entries_of state.log)) m)) layer upper are.two are.three in
    let own : IsLayer (layer_of state.layers layer) = subst (λ (layers : Layers). IsLayer (layer_of layers layer)) (sym valid.layers) each in
    let none : (layer_of state.layers layer).owner ≡ None = sym same ∙ unborn layer upper in
    let unreliable : (layer_of state.layers layer).reliable ≡ false = ap (λ (l : Layer). l.reliable) (own none) in
    let empty : region_of state layer ≡ empty_region = (region_is_valid state layer upper valid).empty unreliable in
    contains_none secret (subst (λ (r : Region). Contains r.secrets secret) empty within)
