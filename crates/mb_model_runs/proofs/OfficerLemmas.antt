-- Orders that the right officers signed pass.
use Rattle.std.proofs.Common.{◌≡◌, ◌<◌, ℕ, List, ◌∷◌, inl, length, Option, Some, refl, sym, ap, subst, ◌∙◌}
use Rattle.std.specs.Prelude.{All, filter, nat_lt, Result, Ok}
use Rattle.std.proofs.lemmas.List.Elements.{All-append, All-cons, All-filter, All-weaker}
use Rattle.mb_model.specs.declared.key.KeySeed.{KeySeed}
use Rattle.mb_model.specs.declared.key.PublicKey.{PublicKey}
use Rattle.mb_model.specs.declared.order.Countersignature.{Countersignature}
use Rattle.mb_model.specs.declared.order.Order.{Order}
use Rattle.mb_model.specs.declared.state.State.{State}
use Rattle.mb_model.specs.declared.tools.Keyfile.{Keyfile}
use Rattle.mb_model.specs.signatures.Merkle.{Verifies}
use Rattle.mb_model.specs.owners.Layers.{layer_of}
use Rattle.mb_model.specs.owners.Rules.{authority}
use Rattle.mb_model.specs.records.OrderFormat.{order_format, order_body}
use Rattle.mb_model.specs.machine.OrderChecks.{change_by, IsSigned, IsCountersigned, view_of}
use Rattle.mb_model.specs.machine.OrderEffects.{state_after_order}
use Rattle.mb_model.specs.machine.OrderStep.{OrderStep, is_obeyed}
use Rattle.mb_model.specs.owners.Log.{entries_of, number_of}
use Rattle.mb_model.specs.declared.reply.Refusal.{Refusal}
use Rattle.mb_model.specs.machine.Machine.{Phase, ratchet, World, running_state, running_state_in, CommandStep, Machine}
use Rattle.mb_model.specs.declared.event.Event.TheVariants as event
use Rattle.mb_model.specs.declared.reply.Reply.{Reply}
use Rattle.mb_model.specs.declared.reply.Reply.TheVariants as reply
use Rattle.mb_format.specs.Format.{Spells}
use Rattle.mb_model.specs.machine.SignedTexts.{order_text, countersigned_text, IsSignedBy}
use Rattle.mb_model.specs.machine.SignedOrders.{signed_order, countersignature_of, countersigned_order}
use Rattle.mb_model.specs.signatures.Signing.{public_of, signature_of}
use Rattle.mb_model_lemmas.proofs.SignatureLemmas.{signature_verifies}
use Rattle.mb_model_runs.specs.OfficerLaws.{HasCharge, OwnsLayer, IsRightlySigned, IsRightlyCountersigned, PassesTheRest}

-- what the key of an owner signs is signed by the owner
signed_by_owner : (owner : Option PublicKey) (key : KeySeed) (index : ℕ) (text signature : List ℕ) → index < 32 → owner ≡ Some (public_of key)
    → signature ≡ signature_of key index text → IsSignedBy owner text signature
signed_by_owner owner key index text signature less is made =
    let verifies : Verifies (public_of key) text signature = subst (λ (s : List ℕ). Verifies (public_of key) text s) (sym made) (signature_verifies key index text less) in
    subst (λ (o : Option PublicKey). IsSignedBy o text signature) (sym is) verifies

pub right_signature : (state : State) (order : Order) → IsRightlySigned state order → IsSigned (view_of state) order
right_signature state order right =
    signed_by_owner (authority state.layers (change_by order) order.layer) right.key right.index (order_text (order_body order)) order.signature right.left right.charge right.signature

pub right_countersignature : (state : State) (order : Order) (by : Countersignature) → IsRightlyCountersigned state order by → IsCountersigned (view_of state) order by
right_countersignature state order by right =
    signed_by_owner (layer_of state.layers by.layer).owner right.key right.index (countersigned_text by.layer (order_body order)) by.signature right.left right.owner right.signature

-- ---- an order that is obeyed

pub runs_first : (world : World) (state : State) → world.phase ≡ ratchet 1 → world.state ≡ Some state → running_state_in world ≡ Ok (1, state)
runs_first world state at was = ap (λ (p : Phase). running_state p world.state) at ∙ ap (running_state (ratchet 1)) was

order_obeyed : (state : State) (text draw : List ℕ) (order : Order) → Spells order_format text order → PassesTheRest state order
    → IsRightlySigned state order → All (IsRightlyCountersigned state order) order.countersignatures
    → OrderStep state text draw (reply.Done (number_of (entries_of (state_after_order state order draw).log)) (length (state_after_order state order draw).log)) (state_after_order state order draw)
order_obeyed state text draw order spelled stands signed countersigned =
    is_obeyed (record {
      order = order;
      spelled = spelled;
      passes =
          stands (right_signature state order signed)
          (All-weaker (IsRightlyCountersigned state order) (IsCountersigned (view_of state) order) (right_countersignature state order) order.countersignatures countersigned);
      follows = refl;
      answered = refl;
    })

pub right_order_obeyed : (world : World) (state : State) (text draw : List ℕ) (order : Order)
    → world.phase ≡ ratchet 1 → world.state ≡ Some state → Spells order_format text order → PassesTheRest state order
    → IsRightlySigned state order → All (IsRightlyCountersigned state order) order.countersignatures
    → let next : State = state_after_order state order draw in
    let answer : Reply = reply.Done (number_of (entries_of next.log)) (length next.log) in
    Machine world (event.Order text draw) answer (record world { state = Some next })
right_order_obeyed world state text draw order at was spelled stands signed countersigned =
    let next : State = state_after_order state order draw in
    let answer : Reply = reply.Done (number_of (entries_of next.log)) (length next.log) in
    let step : OrderStep state text draw answer next = order_obeyed state text draw order spelled stands signed countersigned in
    subst (λ (on : Result (ℕ × State) Refusal). CommandStep world text draw on answer (record world { state = Some next })) (sym (runs_first world state at was))
    (inl (refl, (next, step, refl)))

-- ---- what officers' tools make

pub signed_order_passes : (state : State) (order : Order) (k : Keyfile) → k.next < 32 → HasCharge state order k.seed → IsSigned (view_of state) (signed_order k order)
signed_order_passes state order k less owns =
    right_signature state (signed_order k order) (record { key = k.seed; index = k.next; charge = owns; left = less; signature = refl })

pub countersigned_stays_signed : (state : State) (order : Order) (k : Keyfile) (m : ℕ) → IsSigned (view_of state) order → IsSigned (view_of state) (countersigned_order k m order)
countersigned_stays_signed state order k m signed = signed

pub countersigned_order_passes : (state : State) (order : Order) (k : Keyfile) (m : ℕ) → k.next < 32 → OwnsLayer state m k.seed
    → All (IsCountersigned (view_of state) order) order.countersignatures
    → All (IsCountersigned (view_of state) (countersigned_order k m order)) (countersigned_order k m order).countersignatures
countersigned_order_passes state order k m less owns pass =
    let P : Countersignature → Type 0 = IsCountersigned (view_of state) order in
    let new : Countersignature = countersignature_of k m order in
    let list : List Countersignature = order.countersignatures in
    let below : List Countersignature = filter (λ other. nat_lt other.layer m) list in
    let above : List Countersignature = filter (λ other. nat_lt m other.layer) list in
    let own : P new = right_countersignature state order new (record { key = k.seed; index = k.next; owner = owns; left = less; signature = refl }) in
    All-append P below (new ∷ above) (All-filter (λ other. nat_lt other.layer m) P list pass)
    (All-cons P new above own (All-filter (λ other. nat_lt m other.layer) P list pass))
