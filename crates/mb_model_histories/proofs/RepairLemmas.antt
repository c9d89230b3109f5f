-- What owners can always do.
use Rattle.std.proofs.Common.{◌≡◌, ◌≢◌, ◌<◌, ◌≤◌, ℕ, ◌-◌, List, [], ◌∷◌, length, inl, inr, None, Some, Bool, true, false, refl, sym, ap, subst, ◌∙◌, arith}
use Rattle.std.specs.Prelude.{◌==◌, All, IsTrue, is_some, not, ◌&&◌, if◌then◌else◌}
use Rattle.std.proofs.lemmas.List.Elements.{All-nil, All-cons}
use Rattle.std.proofs.lemmas.Option.{same_Some}
use Rattle.mb_format.specs.Combinators.{items}
use Rattle.mb_format.specs.Format.{Spells}
use Rattle.mb_model.proofs.Passed.{passed, passes_by}
use Rattle.mb_model.proofs.OrderFormatLaws.{form_listed, given_allowed}
use Rattle.mb_model.specs.declared.event.Answered.{Answered}
use Rattle.mb_model.specs.declared.event.Event.TheVariants as event
use Rattle.mb_model.specs.declared.key.PublicKey.{PublicKey}
use Rattle.mb_model.specs.declared.layer.Layer.{Layer}
use Rattle.mb_model.specs.declared.layer.Layers.{Layers}
use Rattle.mb_model.specs.declared.layer.Trusts.{Trusts}
use Rattle.mb_model.specs.declared.limits.TheConstants.{LAST_INDEX}
use Rattle.mb_model.specs.declared.order.Act.{Act}
use Rattle.mb_model.specs.declared.order.Act.TheVariants as act
use Rattle.mb_model.specs.declared.order.ChangeKind.{ChangeKind}
use Rattle.mb_model.specs.declared.order.ChangeKind.TheVariants.{Establish, Surrender, Load, Emergency}
use Rattle.mb_model.specs.declared.order.Order.{Order}
use Rattle.mb_model.specs.declared.order.Payload.{Payload}
use Rattle.mb_model.specs.declared.order.Target.{Target}
use Rattle.mb_model.specs.declared.order.Target.TheVariants.{Serial, Length}
use Rattle.mb_model.specs.declared.reply.Reply.{Reply}
use Rattle.mb_model.specs.declared.reply.Reply.TheVariants as reply
use Rattle.mb_model.specs.declared.state.State.{State}
use Rattle.mb_model.specs.declared.state.View.{View}
use Rattle.mb_model.specs.declared.tools.Keyfile.{Keyfile}
use Rattle.mb_model.specs.signatures.Key.{IsSized}
use Rattle.mb_model.specs.records.KeyFormat.{public_key_format}
use Rattle.mb_model.specs.records.LayerFormat.{trust_format}
use Rattle.mb_model.specs.owners.Layers.{layer_of, is_layer_number, is_owned, is_upper, IsLayers}
use Rattle.mb_model.specs.owners.Log.{entries_of, layers_of}
use Rattle.mb_model.specs.machine.Machine.{Phase, off, dead as gone, ratchet, World, Told, opening_world, boot_event, Machine, LosesPower, Step, machine_step, lacks_memory, loses_power, Run}
use Rattle.mb_model.specs.machine.OrderChecks.{view_of, change_by, needs_succession, entries_needed, TargetHoldsIn, LogHasRoom, RegionHasRoom, IsSigned, IsCountersigned, Passes}
use Rattle.mb_model.specs.machine.OrderEffects.{state_after_order}
use Rattle.mb_model.specs.records.OrderFormat.{order_body, act_by, differs_in, target_format, payload_format, body_format, sized_signature_format, countersignatures_format, order_format}
use Rattle.mb_model.specs.owners.Rules.{renews, kind_of, change_of, MayBeFor, Condition, signing_layer}
use Rattle.mb_model.specs.owners.Rules.{layer_from_order}
use Rattle.mb_model.specs.machine.SignedOrders.{signed_order}
use Rattle.mb_model.specs.machine.SignedTexts.{order_text, IsSignedBy}
use Rattle.mb_model.specs.memories.Valid.{IsValidState}
use Rattle.mb_model_lemmas.proofs.RuleLemmas.{ruled_are_layers}
use Rattle.mb_model_lemmas.proofs.SignatureLemmas.{length-signature_of}
use Rattle.mb_model_lemmas.proofs.ValidStates.{valid_is_ruled}
use Rattle.mb_model_lemmas.proofs.WordLemmas.{upper_within}
use Rattle.mb_model_runs.specs.OfficerLaws.{IsRightlySigned, IsRightlyCountersigned, PassesTheRest}
use Rattle.mb_model_runs.proofs.OfficerLemmas.{right_signature, right_order_obeyed}
use Rattle.mb_model_runs.proofs.StatementLemmas.{some_log}
use Rattle.mb_model_histories.specs.Histories.{in_this_run}
use Rattle.mb_model_histories.specs.ObeyedOrders.{ObeysAt, Becomes, stays, is_ordered, is_distrusted}
use Rattle.mb_model_histories.specs.OwnerLaws.{OwnersCanGiveUp}
use Rattle.mb_model_histories.specs.TargetLaws.{PlainLoadsAreFree, NamedLoadsPass}
use Rattle.mb_model_histories.specs.RepairLaws.{EachLiveDeviceComesToLayerOne, BootsCanBeTriedAgain, DeadDevicesNeverBoot, CanBeLoaded, plain_order, CanBeGiven, HasKeyOf, LayerOneCanAlwaysBeLoaded, LayersCanAlwaysBeRecovered, LayersCanAlwaysBeGiven, OneEntryIsNotEnough, WasRecovered, OnlyTheOwnerBeneathRecovers}
use Rattle.mb_model_histories.proofs.HistoryLemmas.{lives_before, runs_lead}
use Rattle.mb_model_histories.proofs.ObeyedLemmas.{and_false, ordered_own}
use Rattle.mb_model_histories.proofs.OwnerLemmas.{only_orders_change, orders_change_their_layer, step_before}

-- ---- layer 1

boots : (here : World) (state : State) → here.state ≡ Some state
    → Machine (record here { phase = off }) event.Boot reply.Booted (record here { phase = ratchet 1 })
boots here state was = ap (boot_event (record here { phase = off }) off) (sym was)

pub comes_to_layer_one : EachLiveDeviceComesToLayerOne
comes_to_layer_one here state was = (record here { phase = off }, (refl, refl), (record here { phase = ratchet 1 }, boots here state was, refl))

booted : (here next : World) (state : State) (answer : Reply) → here.phase ≡ off → here.state ≡ Some state → Machine here event.Boot answer next
    → (answer ≡ reply.Booted) × (next ≡ record here { phase = ratchet 1 })
booted here next state answer dark was x =
    let told : ◌≡◌ {A = Told} (answer, next) (reply.Booted, record here { phase = ratchet 1 }) =
    x ∙ ap (λ p. boot_event here p here.state) dark ∙ ap (boot_event here off) was in
    (ap (λ (t : Told). t.0) told, ap (λ (t : Told). t.1) told)

cut_boot : (here next : World) (state : State) (answer : Reply) → here.phase ≡ off → here.state ≡ Some state → (p : LosesPower here event.Boot answer next) → next ≡ opening_world (Some state)
cut_boot here next state answer dark was p =
    let whole : p.whole ≡ record here { phase = ratchet 1 } = (booted here p.whole state p.told dark was p.machine).1 in
    let left : p.state ≡ here.state = elim (p.counts) [ inl before ↦ before | inr after ↦ after ∙ ap (λ (w : World). w.state) whole ] in
    p.follows ∙ ap opening_world (left ∙ was)

pub boots_can_be_tried_again : BootsCanBeTriedAgain
boots_can_be_tried_again here next state answer dark was (machine_step x) = inl (booted here next state answer dark was x)
boots_can_be_tried_again here next state answer dark was (lacks_memory p) = inr (inl (p.answered, p.stays))
boots_can_be_tried_again here next state answer dark was (loses_power p) = inr (inr (p.answered, cut_boot here next state answer dark was p))

-- ---- dead devices

dead_boot : (here : World) (phase : Phase) → here.state ≡ None → ((boot_event here phase None).1.state ≡ None) × ((boot_event here phase None).0 ≢ reply.Booted)
dead_boot here off dead = (dead, λ e. absurd (grind (arith, e)))
dead_boot here gone dead = (dead, λ e. absurd (grind (arith, e)))
dead_boot here (ratchet level) dead = (dead, λ e. absurd (grind (arith, e)))

machine_dead : (here next : World) (answer : Reply) → here.state ≡ None → Machine here event.Boot answer next → (next.state ≡ None) × (answer ≢ reply.Booted)
machine_dead here next answer dead x =
    let told : ◌≡◌ {A = Told} (answer, next) (boot_event here here.phase None) = x ∙ ap (boot_event here here.phase) dead in
    let never = dead_boot here here.phase dead in
    (ap (λ (t : Told). t.1.state) told ∙ never.0, λ e. never.1 (sym (ap (λ (t : Told). t.0) told) ∙ e))

pub dead_devices_never_boot : DeadDevicesNeverBoot
dead_devices_never_boot here next answer dead (machine_step x) = machine_dead here next answer dead x
dead_devices_never_boot here next answer dead (lacks_memory p) =
    (ap (λ (w : World). w.state) p.stays ∙ dead, λ e. let clash : reply.NoMemory ≡ reply.Booted = sym p.answered ∙ e in absurd (grind (arith, clash)))
dead_devices_never_boot here next answer dead (loses_power p) =
    let left : p.state ≡ None = elim (p.counts) [ inl before ↦ before ∙ dead | inr after ↦ after ∙ (machine_dead here p.whole p.told dead p.machine).0 ] in
    (ap (λ (w : World). w.state) p.follows ∙ left, λ e. let clash : reply.Stopped ≡ reply.Booted = sym p.answered ∙ e in absurd (grind (arith, clash)))

-- ---- orders that can be given

-- what an order does has a spelling
pub record ActAllowed (layer : ℕ) (a : Act) : Type 0 where
  pub layered : MayBeFor (kind_of a) layer
  pub spelled : (act_by (kind_of a) (differs_in a)).Allowed a

load_allowed : (layer : ℕ) (payload : Payload) → 1 ≤ layer → layer ≤ 3 → CanBeLoaded payload → ActAllowed layer (act.Load payload)
unfolding payload_format trust_format
load_allowed layer payload least most can = record { layered = (least, most); spelled = (can.version, (given_allowed payload.trust, ((omega arith, can.code), refl))) }

emergency_allowed : (layer : ℕ) (payload : Payload) → 2 ≤ layer → layer ≤ 3 → CanBeLoaded payload → ActAllowed layer (act.Emergency payload)
unfolding payload_format trust_format
emergency_allowed layer payload least most can = record { layered = (least, most); spelled = (can.version, (given_allowed payload.trust, ((omega arith, can.code), refl))) }

establish_allowed : (layer : ℕ) (owner : PublicKey) (trust : Trusts) → 2 ≤ layer → layer ≤ 3 → IsSized owner → ActAllowed layer (act.Establish owner trust)
unfolding trust_format public_key_format
establish_allowed layer owner trust least most sized = record { layered = (least, most); spelled = ((tt, (tt, (sized.identifier, sized.root))), given_allowed trust) }

surrender_allowed : (layer : ℕ) → 2 ≤ layer → layer ≤ 3 → ActAllowed layer act.Surrender
surrender_allowed layer least most = record { layered = (least, most); spelled = refl }

sized_allowed : (signature : List ℕ) → length signature ≡ 2348 → sized_signature_format.Allowed signature
unfolding sized_signature_format
sized_allowed signature sized = ((omega arith, omega (arith, sized)), refl)

plain_allowed : (keyfile : Keyfile) (layer : ℕ) (a : Act) → ActAllowed layer a → order_format.Allowed (plain_order keyfile layer a)
unfolding order_format body_format target_format items countersignatures_format
plain_allowed keyfile layer a can = (
  (form_listed a, (can.layered, (((omega arith, omega arith), refl), can.spelled))),
  (sized_allowed (plain_order keyfile layer a).signature (length-signature_of keyfile.seed keyfile.next _), ((omega arith, omega arith), refl)),
)

no_key : (view : View) (layer : ℕ) (a : Act) (kind : ChangeKind) → change_of (kind_of a) ≡ Some kind → RegionHasRoom view layer a
no_key view layer (act.Establish owner trust) kind is = tt
no_key view layer act.Surrender kind is = tt
no_key view layer (act.Load payload) kind is = tt
no_key view layer (act.Emergency payload) kind is = tt
no_key view layer (act.NewKey key_kind) kind is = absurd (grind (arith, is))

module _ (here : World) (state : State) (keyfile : Keyfile) (layer : ℕ) (a : Act) (draw : List ℕ) (was : here.state ≡ Some state) where
  abbrev given : Order
  given = plain_order keyfile layer a

  pub can_be_given_with : ActAllowed layer a → Condition state.layers (change_of (kind_of a)) layer → HasKeyOf state (signing_layer (change_of (kind_of a)) layer) keyfile
      → LogHasRoom (view_of state) (plain_order keyfile layer a) → RegionHasRoom (view_of state) layer a
      → layer_of (state_after_order state (plain_order keyfile layer a) draw).layers layer ≡ layer_from_order (layer_of state.layers layer) a
      → CanBeGiven here state (plain_order keyfile layer a) draw
  can_be_given_with allowed may has room region_room becomes =
      let spelled : Spells order_format (order_format.spelling given) given = record { allowed = plain_allowed keyfile layer a allowed; whole = refl } in
      let on : World = record here { phase = ratchet 1 } in
      let last : World = record on { state = Some (state_after_order state given draw) } in
      let rest : PassesTheRest state given = λ signature countersignatures. passes_by (record {
        targets = All-nil (TargetHoldsIn (view_of state));
        condition = may;
        signature = signature;
        countersignatures = countersignatures;
        log = room;
        keys = region_room;
      }) in
      let signed : IsRightlySigned state given = record { key = keyfile.seed; index = keyfile.next; charge = has.owns; left = has.left; signature = refl } in
      record {
        spelled = spelled;
        last = last;
        run = (
          record here { phase = off },
          (refl, refl),
          (on, boots here state was, (last, right_order_obeyed on state (order_format.spelling given) draw given refl was spelled rest signed (All-nil (IsRightlyCountersigned state given)), refl)),
        );
        is = refl;
        becomes = becomes;
      }

  can_be_given : (kind : ChangeKind) → change_of (kind_of a) ≡ Some kind → IsTrue (is_layer_number layer) → ActAllowed layer a
      → Condition state.layers (change_of (kind_of a)) layer → HasKeyOf state (signing_layer (change_of (kind_of a)) layer) keyfile
      → LogHasRoom (view_of state) (plain_order keyfile layer a) → CanBeGiven here state (plain_order keyfile layer a) draw
  can_be_given kind is number allowed may has room =
      can_be_given_with allowed may has room (no_key (view_of state) layer a kind is) (ordered_own state given draw kind number is)

-- ---- layer 1

-- a load of layer 1, with any targets
abbrev one_load : Keyfile → List Target → Payload → Order
one_load keyfile targets payload =
    signed_order keyfile (record { layer = 1; targets = targets; act = act.Load payload; signature = []; countersignatures = [] })

one_entry : (state : State) (keyfile : Keyfile) (targets : List Target) (payload : Payload) → entries_needed (view_of state) (one_load keyfile targets payload) ≡ 1
one_entry state keyfile targets payload = ap (λ (b : Bool). if b then 2 else 1) (and_false ((view_of state).uses == LAST_INDEX))

one_may_be_loaded : (state : State) (keyfile : Keyfile) → IsValidState state → HasKeyOf state 1 keyfile → Condition state.layers (Some Load) 1
one_may_be_loaded state keyfile valid has =
    let are : IsLayers (layers_of (entries_of state.log)) = ruled_are_layers (entries_of state.log) (valid_is_ruled state valid) (some_log state valid) in
    let reliable : IsTrue state.layers.one.reliable = subst (λ (layers : Layers). IsTrue layers.one.reliable) (sym valid.layers) are.reliable in
    let owned : is_owned state.layers 1 ≡ true = ap is_some has.owns in
    grind (arith, owned, reliable)

one_load_passes : (state : State) (keyfile : Keyfile) (targets : List Target) (payload : Payload) → IsValidState state → HasKeyOf state 1 keyfile → length state.log < 128
    → All (TargetHoldsIn (view_of state)) targets → Passes (view_of state) (one_load keyfile targets payload)
one_load_passes state keyfile targets payload valid has room hold =
    let order : Order = one_load keyfile targets payload in
    passes_by (record {
      targets = hold;
      condition = one_may_be_loaded state keyfile valid has;
      signature = right_signature state order (record { key = keyfile.seed; index = keyfile.next; charge = has.owns; left = has.left; signature = refl });
      countersignatures = All-nil (IsCountersigned (view_of state) order);
      log = omega (arith, one_entry state keyfile targets payload, room);
      keys = tt;
    })

pub plain_loads_are_free : PlainLoadsAreFree
plain_loads_are_free state keyfile payload valid has room = record {
  passes = one_load_passes state keyfile [] payload valid has room (All-nil (TargetHoldsIn (view_of state)));
  free = refl;
  load = refl;
}

pub named_loads_pass : NamedLoadsPass
named_loads_pass state keyfile payload valid has room =
    let Holds : Target → Type 0 = TargetHoldsIn (view_of state) in
    one_load_passes state keyfile (Serial state.serial ∷ Length (length state.log) ∷ []) payload valid has room
    (All-cons Holds (Serial state.serial) (Length (length state.log) ∷ []) refl (All-cons Holds (Length (length state.log)) [] refl (All-nil Holds)))

pub two_or_one : (b : Bool) → (if b then 2 else 1) ≤ 2
two_or_one true = omega arith
two_or_one false = omega arith

pub layer_one_can_be_loaded : LayerOneCanAlwaysBeLoaded
layer_one_can_be_loaded here state keyfile payload draw valid was has can room =
    can_be_given here state keyfile 1 (act.Load payload) draw was Load refl refl (load_allowed 1 payload (omega arith) (omega arith) can)
    (one_may_be_loaded state keyfile valid has) has (omega (arith, one_entry state keyfile [] payload, room))

-- ---- layers 2 and 3

upper_number : (layer : ℕ) → IsTrue (is_upper layer) → IsTrue (is_layer_number layer)
upper_number layer is = grind (arith, is)

pub layers_can_be_recovered : LayersCanAlwaysBeRecovered
layers_can_be_recovered here state layer keyfile payload draw was upper owned has can room =
    let fits = upper_within layer upper in
    let beneath : is_owned state.layers (layer - 1) ≡ true = ap is_some has.owns in
    can_be_given here state keyfile layer (act.Emergency payload) draw was Emergency refl (upper_number layer upper) (emergency_allowed layer payload fits.0 fits.1 can)
    (grind (arith, upper, owned, beneath)) has (omega (arith, two_or_one (needs_succession (view_of state) (plain_order keyfile layer (act.Emergency payload))), room))

pub layers_can_be_given : LayersCanAlwaysBeGiven
layers_can_be_given here state layer keyfile owner trust draw was upper unowned has sized room =
    let fits = upper_within layer upper in
    let beneath : is_owned state.layers (layer - 1) ≡ true = ap is_some has.owns in
    can_be_given here state keyfile layer (act.Establish owner trust) draw was Establish refl (upper_number layer upper) (establish_allowed layer owner trust fits.0 fits.1 sized)
    (grind (arith, upper, unowned, beneath)) has (omega (arith, two_or_one (needs_succession (view_of state) (plain_order keyfile layer (act.Establish owner trust))), room))

pub owners_can_give_up : OwnersCanGiveUp
owners_can_give_up here state layer keyfile draw was upper has room =
    let fits = upper_within layer upper in
    let owned : is_owned state.layers layer ≡ true = ap is_some has.owns in
    can_be_given here state keyfile layer act.Surrender draw was Surrender refl (upper_number layer upper) (surrender_allowed layer fits.0 fits.1)
    (grind (arith, upper, owned)) has (omega (arith, two_or_one (needs_succession (view_of state) (plain_order keyfile layer act.Surrender)), room))

pub one_entry_is_not_enough : OneEntryIsNotEnough
one_entry_is_not_enough state order last plain full passes =
    let needs : needs_succession (view_of state) order ≡ true =
    ap (λ (n : ℕ). n == LAST_INDEX && not (renews (change_by order) order.layer)) last ∙ ap (λ (b : Bool). not b) plain in
    let two : entries_needed (view_of state) order ≡ 2 = ap (λ (b : Bool). if b then 2 else 1) needs in
    omega (arith, (passed passes).log, two, full)

-- ---- what nobody else can do

-- the order is an emergency load of the layer, signed by the owner of the layer beneath
record IsRepair (state : State) (order : Order) (layer : ℕ) : Type 0 where
  payload : Payload
  emergency : order.act ≡ act.Emergency payload
  of_layer : order.layer ≡ layer
  signed : IsSignedBy (layer_of state.layers (layer - 1)).owner (order_text (order_body order)) order.signature

repair_placed : (state : State) (order : Order) (a : Act) → order.act ≡ a → (layer_of state.layers order.layer).reliable ≡ false
    → (layer_from_order (layer_of state.layers order.layer) a).reliable ≡ true → Condition state.layers (change_of (kind_of a)) order.layer
    → IsSignedBy (layer_of state.layers (signing_layer (change_of (kind_of a)) order.layer)).owner (order_text (order_body order)) order.signature
    → IsRepair state order order.layer
repair_placed state order (act.Establish owner trust) is was now may signed = absurd (grind (arith, now))
repair_placed state order act.Surrender is was now may signed = absurd (grind (arith, now))
repair_placed state order (act.Load payload) is was now may signed = absurd (grind (arith, may, was))
repair_placed state order (act.Emergency payload) is was now may signed = record { payload = payload; emergency = is; of_layer = refl; signed = signed }
repair_placed state order (act.NewKey kind) is was now may signed =
    let clash : false ≡ true = sym was ∙ now in
    absurd (grind (arith, clash))

clashes : (a b : Bool) → a ≡ false → b ≡ true → b ≡ a → ⊥
clashes a b was now same = grind (arith, was, now, same)

repair_after : (state : State) (order : Order) (layer : ℕ) (new : Layer) → Becomes state order layer new → (layer_of state.layers layer).reliable ≡ false → new.reliable ≡ true
    → Condition state.layers (change_of (kind_of order.act)) order.layer → IsSigned (view_of state) order → IsRepair state order layer
repair_after state order layer new (stays same) was now may signed = absurd (clashes _ _ was now (ap (λ (l : Layer). l.reliable) same))
repair_after state order layer new (is_distrusted above same) was now may signed = absurd (clashes _ _ refl now (ap (λ (l : Layer). l.reliable) same))
repair_after state order layer new (is_ordered at by same) was now may signed =
    let own : (layer_of state.layers order.layer).reliable ≡ false = ap (λ n. (layer_of state.layers n).reliable) (sym at) ∙ was in
    let placed : new ≡ layer_from_order (layer_of state.layers order.layer) order.act = same ∙ ap (λ n. layer_from_order (layer_of state.layers n) order.act) at in
    subst (λ n. IsRepair state order n) (sym at) (repair_placed state order order.act refl own (sym (ap (λ (l : Layer). l.reliable) placed) ∙ now) may signed)

recovered_later : (first mid last : World) (this : Answered) (layer : ℕ) → Step first this.event this.reply mid → WasRecovered mid last layer → WasRecovered first last layer
recovered_later first mid last this layer step its = record {
  here = its.here;
  this = its.this;
  after = its.after;
  order = its.order;
  payload = its.payload;
  before = step_before first mid its.here this step its.before;
  obeyed = its.obeyed;
  later = its.later;
  emergency = its.emergency;
  of_layer = its.of_layer;
  signed = its.signed;
}

recovered_first : (first mid last : World) (this : Answered) (rest : List Answered) (layer : ℕ) (order : Order) (by : ObeysAt first this.event mid order) → Run mid rest last
    → IsRepair by.before order layer → WasRecovered first last layer
recovered_first first mid last this rest layer order by run repair = record {
  here = first;
  this = this.event;
  after = mid;
  order = order;
  payload = repair.payload;
  before = in_this_run [] refl;
  obeyed = by;
  later = in_this_run rest run;
  emergency = repair.emergency;
  of_layer = repair.of_layer;
  signed = repair.signed;
}

recovered_over_run : (first last : World) (answered : List Answered) (a b : State) (layer : ℕ) → Run first answered last → first.state ≡ Some a → last.state ≡ Some b
    → (layer_of a.layers layer).reliable ≡ false → (layer_of b.layers layer).reliable ≡ true → WasRecovered first last layer
recovered_over_run first last [] a b layer run is_a is_b was now =
    let same : a ≡ b = same_Some a b (sym is_a ∙ sym (ap (λ (w : World). w.state) run) ∙ is_b) in
    absurd (clashes _ _ was now (ap (λ (s : State). (layer_of s.layers layer).reliable) (sym same)))
recovered_over_run first last (this ∷ rest) a b layer run is_a is_b was now =
    let between = lives_before run.0 last rest b run.2 is_b in
    let mid : State = between.0 in
    by mid between.1 (layer_of mid.layers layer).reliable refl (λ still. recovered_over_run run.0 last rest mid b layer run.2 between.1 is_b still now)
  where
    by : (mid : State) → run.0.state ≡ Some mid → (b : Bool) → (layer_of mid.layers layer).reliable ≡ b
        → ((layer_of mid.layers layer).reliable ≡ false → WasRecovered run.0 last layer) → WasRecovered first last layer
    by mid is_mid false still more = recovered_later first run.0 last this layer run.1 (more still)
    by mid is_mid true turned more =
        elim (only_orders_change first run.0 this.event this.reply a mid run.1 is_a is_mid) [
          | inl kept ↦ absurd (clashes _ _ was turned (ap (λ (s : State). (layer_of s.layers layer).reliable) kept))
          | inr ordered ↦
              let obeyed : ObeysAt first this.event run.0 ordered.0 = ordered.1 in
              let same : a ≡ obeyed.before = same_Some a obeyed.before (sym is_a ∙ obeyed.was) in
              let own : (layer_of obeyed.before.layers layer).reliable ≡ false = ap (λ (s : State). (layer_of s.layers layer).reliable) (sym same) ∙ was in
              let repair = repair_after obeyed.before ordered.0 layer (layer_of mid.layers layer) (orders_change_their_layer first run.0 this.event ordered.0 mid layer obeyed is_mid)
              own turned (passed obeyed.passes).condition (passed obeyed.passes).signature in
              recovered_first first run.0 last this rest layer ordered.0 obeyed run.2 repair
        ]

pub only_the_owner_beneath_recovers : OnlyTheOwnerBeneathRecovers
only_the_owner_beneath_recovers first last a b layer after is_a is_b was now =
    let leads = runs_lead first last b after is_b in
    recovered_over_run first last leads.0 a b layer leads.1 is_a is_b was now
