-- What an order that is obeyed leaves: a longer log, the same serial, and layers that are as before, as ordered, or less
-- reliable.
use Rattle.std.proofs.Common.{◌≡◌, ◌≢◌, ◌<◌, ◌≤◌, ℕ, ◌+◌, List, length, None, Some, Bool, true, false, refl, sym, ap, ◌∙◌, subst, arith, length-append}
use Rattle.std.specs.Prelude.{◌==◌, ◌&&◌, nat_lt, IsTrue, if◌then◌else◌}
use Rattle.mb_model.specs.declared.layer.Layer.{Layer}
use Rattle.mb_model.specs.declared.layer.Layers.{Layers}
use Rattle.mb_model.specs.declared.order.Act.{Act}
use Rattle.mb_model.specs.declared.order.Act.TheVariants as act
use Rattle.mb_model.specs.declared.order.ChangeKind.{ChangeKind}
use Rattle.mb_model.specs.declared.order.ChangeKind.TheVariants.{Establish, Surrender, Load, Emergency}
use Rattle.mb_model.specs.declared.order.Order.{Order}
use Rattle.mb_model.specs.declared.state.Codes.{Codes}
use Rattle.mb_model.specs.declared.state.State.{State}
use Rattle.mb_model.specs.owners.Layers.{layer_without_owner, layer_of, is_layer_number}
use Rattle.mb_model.specs.machine.OrderChecks.{IsSigned, needs_succession, view_of}
use Rattle.mb_model.specs.machine.OrderEffects.{code_after, codes_after, cosigners_of, layers_after, state_after_succession, state_after_change, state_after_new_key, state_after_act, state_after_order, ready_for, own_entry, log_with, fact_of}
use Rattle.mb_model.specs.owners.Rules.{kind_of, change_of, admits, layer_from_order, layer_after, after}
use Rattle.mb_model_lemmas.proofs.OwnEntries.{appends_own}
use Rattle.mb_model_lemmas.proofs.ValidOrders.{own_layer, each_number}
use Rattle.mb_model_histories.specs.ObeyedOrders.{Becomes, stays, is_ordered, is_distrusted}
use Rattle.mb_model_histories.specs.OwnerLaws.{code_of}

-- ---- the log and the serial

ready_long : (b : Bool) (state : State) (draw : List ℕ) → length state.log ≤ length (if b then state_after_succession state draw else state).log
unfolding state_after_succession
ready_long true state draw = simp length-append (omega arith)
ready_long false state draw = omega arith

pub ordered_longer : (state : State) (order : Order) (draw : List ℕ) → length state.log < length (state_after_order state order draw).log
ordered_longer state order draw =
    let ready : State = ready_for state order draw in
    let long : length state.log ≤ length ready.log = ready_long (needs_succession (view_of state) order) state draw in
    let one : length (log_with ready (own_entry ready order draw)) ≡ length ready.log + 1 = length-append ready.log _ in
    let whole : length (state_after_order state order draw).log ≡ length (log_with ready (own_entry ready order draw)) = ap length (appends_own state order draw) in
    omega (arith, long, one, whole)

ready_few : (b : Bool) (state : State) (draw : List ℕ) → length (if b then state_after_succession state draw else state).log ≤ length state.log + 1
unfolding state_after_succession
ready_few true state draw = simp length-append (omega arith)
ready_few false state draw = omega arith

-- an order appends at most two entries
pub ordered_few : (state : State) (order : Order) (draw : List ℕ) → length (state_after_order state order draw).log ≤ length state.log + 2
ordered_few state order draw =
    let ready : State = ready_for state order draw in
    let few : length ready.log ≤ length state.log + 1 = ready_few (needs_succession (view_of state) order) state draw in
    let one : length (log_with ready (own_entry ready order draw)) ≡ length ready.log + 1 = length-append ready.log _ in
    let whole : length (state_after_order state order draw).log ≡ length (log_with ready (own_entry ready order draw)) = ap length (appends_own state order draw) in
    omega (arith, few, one, whole)

-- ---- the layers

ready_layers : (b : Bool) (state : State) (draw : List ℕ) → (if b then state_after_succession state draw else state).layers ≡ state.layers
unfolding state_after_succession
ready_layers true state draw = refl
ready_layers false state draw = refl

act_layers : (ready : State) (order : Order) (a : Act) (draw : List ℕ) → (state_after_act ready order a draw).layers ≡ layers_after ready.layers (fact_of ready.layers order a)
unfolding state_after_change state_after_new_key
act_layers ready order (act.Establish owner trust) draw = refl
act_layers ready order act.Surrender draw = refl
act_layers ready order (act.Load payload) draw = refl
act_layers ready order (act.Emergency payload) draw = refl
act_layers ready order (act.NewKey kind) draw = refl

-- the layers that an order leaves
abbrev ordered : State → Order → Layers
ordered state order = layers_after state.layers (fact_of state.layers order order.act)

ordered_layers : (state : State) (order : Order) (draw : List ℕ) → (state_after_order state order draw).layers ≡ ordered state order
unfolding state_after_order
ordered_layers state order draw =
    act_layers (ready_for state order draw) order order.act draw
    ∙ ap (λ (layers : Layers). layers_after layers (fact_of layers order order.act)) (ready_layers (needs_succession (view_of state) order) state draw)

-- a number of no layer stands for a layer without an owner
no_layer : (layers : Layers) (m : ℕ) → is_layer_number m ≡ false → layer_of layers m ≡ layer_without_owner
no_layer layers m = each_number (λ n. is_layer_number n ≡ false → layer_of layers n ≡ layer_without_owner) m
    (λ e. absurd (grind (arith, e))) (λ e. absurd (grind (arith, e))) (λ e. absurd (grind (arith, e)))
    (λ none e. grind (arith, none))

and_true : (b : Bool) → (b && true) ≡ b
and_true true = refl
and_true false = refl

pub and_false : (b : Bool) → (b && false) ≡ false
and_false true = refl
and_false false = refl

module _ (state : State) (order : Order) (kind : ChangeKind) (signed : IsSigned (view_of state) order) where
  -- the layers after a change of this kind
  changed : Layers
  changed = after state.layers kind order.layer (cosigners_of order) (layer_from_order (layer_of state.layers order.layer) order.act)

  above_becomes : (m : ℕ) (admitted : Bool) → order.layer < m → Becomes state order m (record (layer_of state.layers m) { reliable = (layer_of state.layers m).reliable && admitted })
  above_becomes m true above = stays (ap (λ (b : Bool). record (layer_of state.layers m) { reliable = b }) (and_true (layer_of state.layers m).reliable))
  above_becomes m false above = is_distrusted above (ap (λ (b : Bool). record (layer_of state.layers m) { reliable = b }) (and_false (layer_of state.layers m).reliable))

  -- layer m after the change, given whether the order is for it, for one above it, and whether it admits the order
  layer_by : ℕ → Bool → Bool → Bool → Layer
  layer_by m at beneath admitted =
      if at then layer_from_order (layer_of state.layers order.layer) order.act
      else if beneath then layer_of state.layers m
      else record (layer_of state.layers m) { reliable = (layer_of state.layers m).reliable && admitted }

  by_becomes : (m : ℕ) (at beneath admitted : Bool) → (m == order.layer) ≡ at → nat_lt m order.layer ≡ beneath → Becomes state order m (layer_by m at beneath admitted)
  unfolding layer_by
  by_becomes m true beneath admitted e f =
      let same : order.layer ≡ m = grind (arith, e) in
      is_ordered (sym same) signed (ap (λ (n : ℕ). layer_from_order (layer_of state.layers n) order.act) same)
  by_becomes m false true admitted e f = stays refl
  by_becomes m false false admitted e f = above_becomes m admitted (grind (arith, e, f))

  number_becomes : (m : ℕ) → Becomes state order m (layer_after state.layers kind order.layer (cosigners_of order) (layer_from_order (layer_of state.layers order.layer) order.act) m)
  unfolding layer_by
  number_becomes m = by_becomes m (m == order.layer) (nat_lt m order.layer) (admits state.layers kind order.layer (cosigners_of order) m) refl refl

  change_becomes : (m : ℕ) → Becomes state order m (layer_of changed m)
  unfolding after changed
  change_becomes m = each_number (λ n. Becomes state order n (layer_of changed n)) m (number_becomes 1) (number_becomes 2) (number_becomes 3)
      (λ none. stays (no_layer changed m none ∙ sym (no_layer state.layers m none)))

by_act : (state : State) (order : Order) (a : Act) (m : ℕ) → order.act ≡ a → IsSigned (view_of state) order → Becomes state order m (layer_of (layers_after state.layers (fact_of state.layers order a)) m)
unfolding changed
by_act state order (act.Establish owner trust) m is signed = change_becomes state order Establish signed m
by_act state order act.Surrender m is signed = change_becomes state order Surrender signed m
by_act state order (act.Load payload) m is signed = change_becomes state order Load signed m
by_act state order (act.Emergency payload) m is signed = change_becomes state order Emergency signed m
by_act state order (act.NewKey kind) m is signed = stays refl

-- each layer is as before, as ordered, or less reliable
pub ordered_becomes : (state : State) (order : Order) (draw : List ℕ) (m : ℕ) → IsSigned (view_of state) order → Becomes state order m (layer_of (state_after_order state order draw).layers m)
ordered_becomes state order draw m signed =
    subst (λ (layers : Layers). Becomes state order m (layer_of layers m)) (sym (ordered_layers state order draw)) (by_act state order order.act m refl signed)

own_of : (state : State) (order : Order) (a : Act) (kind : ChangeKind) → IsTrue (is_layer_number order.layer) → change_of (kind_of a) ≡ Some kind
    → layer_of (layers_after state.layers (fact_of state.layers order a)) order.layer ≡ layer_from_order (layer_of state.layers order.layer) order.act
own_of state order (act.Establish owner trust) kind number is = own_layer state.layers Establish order.layer (cosigners_of order) _ number
own_of state order act.Surrender kind number is = own_layer state.layers Surrender order.layer (cosigners_of order) _ number
own_of state order (act.Load payload) kind number is = own_layer state.layers Load order.layer (cosigners_of order) _ number
own_of state order (act.Emergency payload) kind number is = own_layer state.layers Emergency order.layer (cosigners_of order) _ number
own_of state order (act.NewKey key_kind) kind number is = absurd (grind (arith, is))

-- the layer that a change is for is as ordered
pub ordered_own : (state : State) (order : Order) (draw : List ℕ) (kind : ChangeKind) → IsTrue (is_layer_number order.layer) → change_of (kind_of order.act) ≡ Some kind
    → layer_of (state_after_order state order draw).layers order.layer ≡ layer_from_order (layer_of state.layers order.layer) order.act
ordered_own state order draw kind number is =
    ap (λ (layers : Layers). layer_of layers order.layer) (ordered_layers state order draw) ∙ own_of state order order.act kind number is

-- ---- code

apart : (n k : ℕ) → n ≢ k → (k == n) ≡ false
apart n k other = grind (arith, other)

no_code : (codes : Codes) (m : ℕ) → is_layer_number m ≡ false → code_of codes m ≡ None
no_code codes m = each_number (λ n. is_layer_number n ≡ false → code_of codes n ≡ None) m
    (λ e. absurd (grind (arith, e))) (λ e. absurd (grind (arith, e))) (λ e. absurd (grind (arith, e)))
    (λ none e. grind (arith, none))

code_elsewhere : (old : Codes) (k : ℕ) (a : Act) (layer : ℕ) → layer ≢ k → code_of (codes_after old k a) layer ≡ code_of old layer
code_elsewhere old k a layer = each_number (λ n. n ≢ k → code_of (codes_after old k a) n ≡ code_of old n) layer
    (λ other. ap (λ (b : Bool). if b then code_after old.one a else old.one) (apart 1 k other))
    (λ other. ap (λ (b : Bool). if b then code_after old.two a else old.two) (apart 2 k other))
    (λ other. ap (λ (b : Bool). if b then code_after old.three a else old.three) (apart 3 k other))
    (λ none other. no_code (codes_after old k a) layer none ∙ sym (no_code old layer none))

ready_codes : (b : Bool) (state : State) (draw : List ℕ) → (if b then state_after_succession state draw else state).codes ≡ state.codes
unfolding state_after_succession
ready_codes true state draw = refl
ready_codes false state draw = refl

act_code : (ready : State) (order : Order) (a : Act) (draw : List ℕ) (layer : ℕ) → layer ≢ order.layer → code_of (state_after_act ready order a draw).codes layer ≡ code_of ready.codes layer
unfolding state_after_change state_after_new_key
act_code ready order (act.Establish owner trust) draw layer other = code_elsewhere ready.codes order.layer order.act layer other
act_code ready order act.Surrender draw layer other = code_elsewhere ready.codes order.layer order.act layer other
act_code ready order (act.Load payload) draw layer other = code_elsewhere ready.codes order.layer order.act layer other
act_code ready order (act.Emergency payload) draw layer other = code_elsewhere ready.codes order.layer order.act layer other
act_code ready order (act.NewKey kind) draw layer other = refl

-- the code of each other layer is as before
pub ordered_code : (state : State) (order : Order) (draw : List ℕ) (layer : ℕ) → layer ≢ order.layer → code_of (state_after_order state order draw).codes layer ≡ code_of state.codes layer
unfolding state_after_order
ordered_code state order draw layer other =
    act_code (ready_for state order draw) order order.act draw layer other
    ∙ ap (λ (codes : Codes). code_of codes layer) (ready_codes (needs_succession (view_of state) order) state draw)
