-- What the rules leave of the layers: an unowned layer stays as it is, and layer 1 keeps its owner and stays reliable.
use Rattle.std.proofs.Common.{◌≡◌, ◌≢◌, ℕ, List, [], ◌∷◌, ◌++◌, length, Option, None, Some, Bool, true, false, inr, refl, sym, ap, subst, ◌∙◌, arith}
use Rattle.std.specs.Prelude.{◌==◌, ◌&&◌, ◌≤◌, nat_lt, IsSome, IsTrue, if◌then◌else◌}
use Rattle.std.proofs.lemmas.List.{nil_from_length}
use Rattle.mb_model.specs.declared.key.PublicKey.{PublicKey}
use Rattle.mb_model.specs.declared.layer.Trusts.{Trusts}
use Rattle.mb_model.specs.declared.layer.CodeName.{CodeName}
use Rattle.mb_model.specs.declared.layer.Layer.{Layer}
use Rattle.mb_model.specs.declared.layer.Layers.{Layers}
use Rattle.mb_model.specs.declared.layer.Pair.{Pair}
use Rattle.mb_model.specs.declared.order.Act.{Act}
use Rattle.mb_model.specs.declared.order.Act.TheVariants as act
use Rattle.mb_model.specs.declared.order.ChangeKind.{ChangeKind}
use Rattle.mb_model.specs.declared.order.ChangeKind.TheVariants.{Establish, Surrender, Load, Emergency}
use Rattle.mb_model.specs.owners.Layers.{layer_of, IsLayer, IsLayers, Runnable}
use Rattle.mb_model.specs.declared.entry.Entry.{Entry}
use Rattle.mb_model.specs.declared.entry.Entry.TheVariants.{Birth, Change, NewKey, Succession}
use Rattle.mb_model.specs.owners.Log.{figures_of, layers_of, AreFirst, MayHaveVersion, Ruled, RuledLog}
use Rattle.mb_model_lemmas.proofs.LogLemmas.{layers_of-push, by_entries}
use Rattle.mb_model.specs.owners.Rules.{kind_of, change_of, Condition, CanPlace, layer_from_order, admits, layer_after}
use Rattle.mb_model.specs.owners.Rules.{after}

-- what a change puts in place is a layer that a device can hold
pub placed_is_layer : (layers : Layers) (kind : ChangeKind) (k : ℕ) (new : Layer)
    → Condition layers (Some kind) k → CanPlace kind (layer_of layers k) new → IsLayer new
placed_is_layer layers Establish k new allowed can = λ (none : new.owner ≡ None). grind (arith, can, none)
placed_is_layer layers Surrender k new allowed can = λ (none : new.owner ≡ None). can
placed_is_layer layers Load k new allowed can = λ (none : new.owner ≡ None). grind (arith, can, none, allowed)
placed_is_layer layers Emergency k new allowed can = λ (none : new.owner ≡ None). grind (arith, can, none, allowed)

-- an unowned layer stays what it is, whatever is done beneath it
less_reliable : (layer : Layer) (b : Bool) → IsLayer layer → IsLayer (record layer { reliable = layer.reliable && b })
less_reliable layer b is = λ (none : layer.owner ≡ None). ap (λ (l : Layer). let m : Layer = record l { reliable = l.reliable && b } in m) (is none)

after_is_layer : (old new : Layer) (b at beneath : Bool) → IsLayer old → IsLayer new
    → IsLayer (if at then new else if beneath then old else record old { reliable = old.reliable && b })
after_is_layer old new b true beneath is_old is_new = is_new
after_is_layer old new b false true is_old is_new = is_old
after_is_layer old new b false false is_old is_new = less_reliable old b is_old

-- layer 1 keeps its owner and stays reliable
one_stays : (layers : Layers) (kind : ChangeKind) (k : ℕ) (cosigned : Pair) (new : Layer)
    → IsLayers layers → Condition layers (Some kind) k → CanPlace kind (layer_of layers k) new
    → IsSome (layer_after layers kind k cosigned new 1).owner × IsTrue (layer_after layers kind k cosigned new 1).reliable
one_stays layers Establish k cosigned new is allowed can = grind (arith, is, allowed)
one_stays layers Surrender k cosigned new is allowed can = grind (arith, is, allowed)
one_stays layers Load k cosigned new is allowed can = grind (arith, is, allowed, can)
one_stays layers Emergency k cosigned new is allowed can = grind (arith, is, allowed)

pub after_are_layers : (layers : Layers) (kind : ChangeKind) (k : ℕ) (cosigned : Pair) (new : Layer)
    → IsLayers layers → Condition layers (Some kind) k → CanPlace kind (layer_of layers k) new
    → IsLayers (after layers kind k cosigned new)
unfolding after
after_are_layers layers kind k cosigned new is allowed can =
    let one = one_stays layers kind k cosigned new is allowed can in
    let new_is = placed_is_layer layers kind k new allowed can in
    record {
      owned = one.0;
      reliable = one.1;
      two = after_is_layer layers.two new (admits layers kind k cosigned 2) (2 == k) (nat_lt 2 k) is.two new_is;
      three = after_is_layer layers.three new (admits layers kind k cosigned 3) (3 == k) (nat_lt 3 k) is.three new_is;
    }

-- what an order puts in place, a change of its kind can put in place
pub placed_can : (old : Layer) (order : Act) (kind : ChangeKind) → change_of (kind_of order) ≡ Some kind → CanPlace kind old (layer_from_order old order)
placed_can old (act.Establish owner trust) kind e =
    let same : Establish ≡ kind = cc in
    subst (λ (c : ChangeKind). CanPlace c old (layer_from_order old (act.Establish owner trust))) same (refl, refl, refl)
placed_can old act.Surrender kind e =
    let same : Surrender ≡ kind = cc in
    subst (λ (c : ChangeKind). CanPlace c old (layer_from_order old act.Surrender)) same refl
placed_can old (act.Load payload) kind e =
    let same : Load ≡ kind = cc in
    subst (λ (c : ChangeKind). CanPlace c old (layer_from_order old (act.Load payload))) same (refl, refl, refl)
placed_can old (act.Emergency payload) kind e =
    let same : Emergency ≡ kind = cc in
    subst (λ (c : ChangeKind). CanPlace c old (layer_from_order old (act.Emergency payload))) same (refl, refl, refl)
placed_can old (act.NewKey key_kind) kind e = grind arith

-- an entry of version 2 may name any layers after any entries
pub version_two_may_follow : (after_version_two : Bool) (layers : Layers) → MayHaveVersion after_version_two 2 layers
version_two_may_follow after_version_two layers = record { known = inr refl; equal_trusts = λ one. absurd (omega (arith, one)); rises = λ some. refl }

-- two layers with the same four fields are one
abbrev pub layer_with : Option PublicKey → Option CodeName → Bool → Trusts → Layer
layer_with owner code reliable trust = record { owner = owner; code = code; reliable = reliable; trust = trust }

layer_same : (a b : Layer) → a.owner ≡ b.owner → a.code ≡ b.code → a.reliable ≡ b.reliable → a.trust ≡ b.trust → a ≡ b
layer_same a b owner code reliable trust =
    ap (λ (x : Option PublicKey). layer_with x a.code a.reliable a.trust) owner
    ∙ ap (λ (x : Option CodeName). layer_with b.owner x a.reliable a.trust) code
    ∙ ap (λ (x : Bool). layer_with b.owner b.code x a.trust) reliable
    ∙ ap (λ (x : Trusts). layer_with b.owner b.code b.reliable x) trust

-- and what a change can put in place, some order of its kind does, with code of that name
pub can_is_placed : (kind : ChangeKind) (old new : Layer) → CanPlace kind old new
    → (order : Act) × (change_of (kind_of order) ≡ Some kind) × (record (layer_from_order old order) { code = new.code } ≡ new)
can_is_placed Establish old new can =
    (elim (new.owner) as (λ (o : Option PublicKey). new.owner ≡ o → IsSome o → (order : Act) × (change_of (kind_of order) ≡ Some Establish) × (record (layer_from_order old order) { code = new.code } ≡ new)) [
      | None ↦ λ is some. absurd (grind (arith, some))
      | Some owner ↦ λ is some. (act.Establish owner new.trust, refl, layer_same _ new (sym is) refl (sym can.2) refl)
    ]) refl can.0
can_is_placed Surrender old new can = (act.Surrender, refl, layer_same _ new (ap (λ (l : Layer). l.owner) (sym can)) refl (ap (λ (l : Layer). l.reliable) (sym can)) (ap (λ (l : Layer). l.trust) (sym can)))
can_is_placed Load old new can = (act.Load (record { version = 0; trust = new.trust; code = [] }), refl, layer_same _ new (sym can.0) refl (sym can.2) refl)
can_is_placed Emergency old new can = (act.Emergency (record { version = 0; trust = new.trust; code = [] }), refl, layer_same _ new (sym can.0) refl (sym can.2) refl)

-- layer n may run exactly where layers 1 to n are all reliable
pub to_each : (layers : Layers) (n : ℕ) → n ≤ 3 → Runnable layers n → (m : ℕ) → 1 ≤ m → m ≤ n → IsTrue (layer_of layers m).reliable
to_each layers n high runs m least most = grind arith

pub from_each : (layers : Layers) (n : ℕ) → 1 ≤ n → n ≤ 3 → ((m : ℕ) → 1 ≤ m → m ≤ n → IsTrue (layer_of layers m).reliable) → Runnable layers n
from_each layers n low high each =
    let one : 1 ≤ n → IsTrue layers.one.reliable = λ h. each 1 (omega arith) h in
    let two : 2 ≤ n → IsTrue layers.two.reliable = λ h. each 2 (omega arith) h in
    let three : 3 ≤ n → IsTrue layers.three.reliable = λ h. each 3 (omega arith) h in
    grind (arith, one, two, three)

-- the birth's layers are layers that a device can hold
pub first_are_layers : (layers : Layers) → AreFirst layers → IsLayers layers
first_are_layers layers first =
    record { owned = first.owned; reliable = first.reliable; two = λ none. first.two; three = λ none. first.three }

-- and so are those after each entry that may follow
one_more : (before : List Entry) (entry : Entry) → RuledLog before → (length before ≢ 0 → IsLayers (layers_of before)) → Ruled (figures_of before) entry
    → length (before ++ entry ∷ []) ≢ 0 → IsLayers (layers_of (before ++ entry ∷ []))
one_more before (Birth version serial key layers) log are ruled some =
    subst IsLayers (sym (layers_of-push before (Birth version serial key layers))) (first_are_layers layers ruled.1)
one_more before (Change version position number kind layer cosigned layers kept next) log are ruled some =
    let same : layers ≡ after (layers_of before) kind layer cosigned (layer_of layers layer) = ruled.2.changed in
    subst IsLayers (sym (layers_of-push before (Change version position number kind layer cosigned layers kept next) ∙ same)) (after_are_layers (layers_of before) kind layer cosigned (layer_of layers layer) (are ruled.0) ruled.2.allowed ruled.2.placed)
one_more before (NewKey position number key_number layer kind key) log are ruled some =
    subst IsLayers (sym (layers_of-push before (NewKey position number key_number layer kind key))) (are ruled.0)
one_more before (Succession position key) log are ruled some =
    subst IsLayers (sym (layers_of-push before (Succession position key))) (are ruled.0)

-- The layers of a log that obeys the rules are layers that a device can hold.
pub ruled_are_layers : (log : List Entry) → RuledLog log → log ≢ [] → IsLayers (layers_of log)
ruled_are_layers log ruled some =
    by_entries (λ es. length es ≢ 0 → IsLayers (layers_of es)) one_more (λ none. absurd (none refl)) log ruled (λ none. some (nil_from_length log none))
