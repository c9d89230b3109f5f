-- Whose order a layer obeys, when, and what is left afterwards. Who can change a layer, and who can keep it from losing
-- its secrets?
use Rattle.std.specs.Prelude.{◌≡◌, ℕ, ◌-◌, ◌≤◌, ◌==◌, nat_lt, Bool, true, false, not, ◌&&◌, ◌||◌, if◌then◌else◌}
use Rattle.std.specs.Prelude.{List, ◌∷◌, ◌++◌, length, All, Option, None, Some, IsSome, IsSomeAnd, IsTrue}
use Rattle.sha2.specs.Sha256.{sha256}
use Rattle.mb_model.specs.declared.key.PublicKey.{PublicKey}
use Rattle.mb_model.specs.declared.key.Trust.{Trust}
use Rattle.mb_model.specs.declared.key.Trust.TheVariants.{Always, Never, Countersigned}
use Rattle.mb_model.specs.declared.layer.Layer.{Layer}
use Rattle.mb_model.specs.declared.layer.Layers.{Layers}
use Rattle.mb_model.specs.declared.layer.Pair.{Pair}
use Rattle.mb_model.specs.declared.order.ChangeKind.{ChangeKind}
use Rattle.mb_model.specs.declared.order.ChangeKind.TheVariants.{Establish, Surrender, Load, Emergency}
use Rattle.mb_model.specs.declared.order.OrderKind.{OrderKind}
use Rattle.mb_model.specs.declared.order.OrderKind.TheVariants as kind
use Rattle.mb_model.specs.declared.order.Payload.{Payload}
use Rattle.mb_model.specs.declared.order.Act.{Act}
use Rattle.mb_model.specs.declared.order.Act.TheVariants as act
use Rattle.mb_model.specs.declared.order.Target.{Target}
use Rattle.mb_model.specs.declared.order.Target.TheVariants as target
use Rattle.mb_model.specs.signatures.Key.{key_bytes}
use Rattle.mb_model.specs.owners.Layers.{trust_for, layer_without_owner, layer_of, is_owned, is_layer_number, is_upper}
use Rattle.mb_model.specs.owners.Layers.{is_in, is_runnable}

-- ---- kinds of orders

-- the kind of an order, by what it does
abbrev pub kind_of : Act → OrderKind
kind_of (act.Establish owner trust) = kind.Establish
kind_of act.Surrender = kind.Surrender
kind_of (act.Load payload) = kind.Load
kind_of (act.Emergency payload) = kind.Emergency
kind_of (act.NewKey key_kind) = kind.NewKey

-- the change that an order of this kind makes: none if it makes a new key
abbrev pub change_of : OrderKind → Option ChangeKind
change_of kind.Establish = Some Establish
change_of kind.Surrender = Some Surrender
change_of kind.Load = Some Load
change_of kind.Emergency = Some Emergency
change_of kind.NewKey = None

-- The lowest layer that an order of this kind may be for: layer 1 takes ordinary loads alone. So the owner of layer 1
-- stays: no owner beneath could establish another.
abbrev pub least_layer : OrderKind → ℕ
least_layer kind.Establish = 2
least_layer kind.Surrender = 2
least_layer kind.Load = 1
least_layer kind.Emergency = 2
least_layer kind.NewKey = 2

-- an order of this kind may be for this layer
abbrev pub MayBeFor : OrderKind → ℕ → Type 0
MayBeFor order layer = (least_layer order ≤ layer) × (layer ≤ 3)

-- the order is a load, ordinary or emergency
abbrev pub is_load : Option ChangeKind → Bool
is_load (Some Establish) = false
is_load (Some Surrender) = false
is_load (Some Load) = true
is_load (Some Emergency) = true
is_load None = false

-- the order is an ordinary load, by the layer's own owner
abbrev pub is_own_load : Option ChangeKind → Bool
is_own_load (Some Establish) = false
is_own_load (Some Surrender) = false
is_own_load (Some Load) = true
is_own_load (Some Emergency) = false
is_own_load None = false

-- the order makes the next device key: it is an ordinary load of layer 1
abbrev pub renews : Option ChangeKind → ℕ → Bool
renews change changed = is_own_load change && changed == 1

-- ---- who may give an order, and when: by the change that it makes, or None for an order that makes a new key

-- The layer whose owner has to sign an order for a layer. The owner of the layer beneath establishes an owner and loads
-- code in an emergency; all else is up to the layer's own owner.
abbrev pub signing_layer : Option ChangeKind → ℕ → ℕ
signing_layer (Some Establish) layer = layer - 1
signing_layer (Some Surrender) layer = layer
signing_layer (Some Load) layer = layer
signing_layer (Some Emergency) layer = layer - 1
signing_layer None layer = layer

-- the key under which an order for a layer has to verify: none if the layer in charge is unowned
abbrev pub authority : Layers → Option ChangeKind → ℕ → Option PublicKey
authority layers kind layer = (layer_of layers (signing_layer kind layer)).owner

-- whether the layers stand as an order for a layer requires
abbrev pub stands_for_order : Layers → Option ChangeKind → ℕ → Bool
stands_for_order layers (Some Establish) layer =
    is_upper layer && not (is_owned layers layer) && is_owned layers (layer - 1)
stands_for_order layers (Some Surrender) layer = is_upper layer && is_owned layers layer
stands_for_order layers (Some Load) layer =
    is_layer_number layer && is_owned layers layer && (layer_of layers layer).reliable
stands_for_order layers (Some Emergency) layer = is_upper layer && is_owned layers layer && is_owned layers (layer - 1)
stands_for_order layers None layer = is_upper layer && is_runnable layers layer

abbrev pub Condition : Layers → Option ChangeKind → ℕ → Type 0
Condition layers kind layer = IsTrue (stands_for_order layers kind layer)

-- A target holds for a device with this serial and these layers, whose log has this length. A target for the owner or
-- the code of a layer does not hold if the layer has none.
abbrev pub TargetHolds : List ℕ → Layers → ℕ → Target → Type 0
TargetHolds serial layers length (target.Serial named) = named ≡ serial
TargetHolds serial layers length (target.Length named) = named ≡ length
TargetHolds serial layers length (target.Owner layer hash) =
    IsSomeAnd (layer_of layers layer).owner (λ owner. hash ≡ sha256 (key_bytes owner))
TargetHolds serial layers length (target.Code layer hash) =
    IsSomeAnd (layer_of layers layer).code (λ code. hash ≡ code.hash)

-- the item at this index of a list, from 0, is the first for which `Holds` does not hold
pub record IsFirstFailing {A : Type 0} (Holds : A → Type 0) (items : List A) (place : ℕ) (item : A) : Type 0 where
  pub before : List A
  pub rest : List A
  pub split : items ≡ before ++ item ∷ rest
  pub index : place ≡ length before
  pub hold : All Holds before
  pub fails : Holds item → ⊥

-- ---- what is left after a change

-- a layer with this trust goes along with a load beneath it, given whether its owner has countersigned the load
abbrev pub lets_load_in : Trust → Bool → Bool
lets_load_in Always cosigned = true
lets_load_in Never cosigned = false
lets_load_in Countersigned cosigned = cosigned

-- A layer admits a change of itself or of one beneath it: its own ordinary load, and each load beneath it that its
-- trust lets in. The layers are those before the change.
abbrev pub admits : Layers → ChangeKind → ℕ → Pair → ℕ → Bool
admits layers kind changed cosigned layer =
    if layer == changed then is_own_load (Some kind)
    else is_load (Some kind) && lets_load_in (trust_for (layer_of layers layer) changed) (is_in layer cosigned)

abbrev pub Admits : Layers → ChangeKind → ℕ → Pair → ℕ → Type 0
Admits layers kind changed cosigned layer = IsTrue (admits layers kind changed cosigned layer)

-- a layer's region is kept over a change: the change is above the layer, or the layer admits it
abbrev pub is_kept : Layers → ChangeKind → ℕ → Pair → ℕ → Bool
is_kept layers kind changed cosigned layer = nat_lt layer changed || admits layers kind changed cosigned layer

-- the regions that are kept over a change of this layer
abbrev pub kept_regions : Layers → ChangeKind → ℕ → Pair → Pair
kept_regions layers kind changed cosigned =
    record { two = is_kept layers kind changed cosigned 2; three = is_kept layers kind changed cosigned 3 }

-- a layer may countersign a change: the change is a load, and the layer has an owner and stands above the loaded one
abbrev pub may_cosign : Layers → ChangeKind → ℕ → ℕ → Bool
may_cosign layers kind changed cosigner = is_load (Some kind) && nat_lt changed cosigner && is_owned layers cosigner

-- a layer with the code and the trusts of a load; its owner stays
abbrev pub loaded_layer : Layer → Payload → Layer
loaded_layer old payload = record {
  owner = old.owner;
  code = Some (record { hash = sha256 payload.code; version = payload.version });
  reliable = true;
  trust = payload.trust;
}

-- what an order puts in place of its layer
abbrev pub layer_from_order : Layer → Act → Layer
layer_from_order old (act.Establish owner trust) =
    record { owner = Some owner; code = None; reliable = false; trust = trust }
layer_from_order old act.Surrender = layer_without_owner
layer_from_order old (act.Load payload) = loaded_layer old payload
layer_from_order old (act.Emergency payload) = loaded_layer old payload
layer_from_order old (act.NewKey key_kind) = old

-- what a change of this kind can put in place of its layer: what some order of the kind puts there, with code of this
-- name
abbrev pub CanPlace : ChangeKind → Layer → Layer → Type 0
CanPlace Establish old new = IsSome new.owner × (new.code ≡ None) × (new.reliable ≡ false)
CanPlace Surrender old new = new ≡ layer_without_owner
CanPlace Load old new = (new.owner ≡ old.owner) × IsSome new.code × (new.reliable ≡ true)
CanPlace Emergency old new = (new.owner ≡ old.owner) × IsSome new.code × (new.reliable ≡ true)

-- a layer after a change that puts `new` in place of one: a layer above stays reliable only if it admits the change
abbrev pub layer_after : Layers → ChangeKind → ℕ → Pair → Layer → ℕ → Layer
layer_after layers kind changed cosigned new layer =
    if layer == changed then new
    else if nat_lt layer changed then layer_of layers layer
    else record (layer_of layers layer) {
      reliable = (layer_of layers layer).reliable && admits layers kind changed cosigned layer;
    }

-- the layers after a change that puts `new` in place of one
unfoldable pub after : Layers → ChangeKind → ℕ → Pair → Layer → Layers
after layers kind changed cosigned new = record {
  one = layer_after layers kind changed cosigned new 1;
  two = layer_after layers kind changed cosigned new 2;
  three = layer_after layers kind changed cosigned new 3;
}
