-- The layers of a device, how they stand, and which of them may run. Which code may run?
use Rattle.std.specs.Prelude.{◌≡◌, ℕ, ◌==◌, nat_lt, Bool, true, false, not, ◌&&◌, ◌||◌, None, is_some, IsSome, IsTrue}
use Rattle.std.specs.Prelude.{if◌then◌else◌}
use Rattle.mb_model.specs.declared.key.Trust.{Trust}
use Rattle.mb_model.specs.declared.key.Trust.TheVariants.{Always, Never, Countersigned}
use Rattle.mb_model.specs.declared.layer.Layer.{Layer}
use Rattle.mb_model.specs.declared.layer.Layers.{Layers}
use Rattle.mb_model.specs.declared.layer.Trusts.{Trusts}
use Rattle.mb_model.specs.declared.layer.Pair.{Pair}
use Rattle.mb_model.specs.declared.reply.Standing.{Standing}
use Rattle.mb_model.specs.declared.reply.Standing.TheVariants as stands

-- one trust, in changes of layer 1 and of layer 2 alike
abbrev pub equal_trusts : Trust → Trusts
equal_trusts trust = record { one = trust; two = trust }

-- whether two trusts are the same
abbrev pub is_same_trust : Trust → Trust → Bool
is_same_trust Always Always = true
is_same_trust Never Never = true
is_same_trust Countersigned Countersigned = true
is_same_trust _ _ = false

-- whether changes of layer 1 and of layer 2 are trusted alike
abbrev pub are_equal : Trusts → Bool
are_equal trusts = is_same_trust trusts.one trusts.two

-- The trust of a layer in changes of a lower one: 1 or 2. For any layer but 1 the second: a trust is asked of a layer
-- above the changed one, which is 1 or 2.
abbrev pub trust_for : Layer → ℕ → Trust
trust_for layer lower = if lower == 1 then layer.trust.one else layer.trust.two

-- a layer without an owner: it has no code, is not reliable, and both its trusts are never
abbrev pub layer_without_owner : Layer
layer_without_owner = record { owner = None; code = None; reliable = false; trust = equal_trusts Never }

-- no layer has an owner: how a device stands before its birth
abbrev pub unowned_layers : Layers
unowned_layers = record { one = layer_without_owner; two = layer_without_owner; three = layer_without_owner }

-- The layer with this number, 1 to 3; any other number gives a layer without an owner. So nobody has authority over
-- layer 1 from beneath, without a rule for it.
abbrev pub layer_of : Layers → ℕ → Layer
layer_of layers number =
    if number == 1 then layers.one
    else if number == 2 then layers.two
    else if number == 3 then layers.three
    else layer_without_owner

-- the layer with this number has an owner
abbrev pub is_owned : Layers → ℕ → Bool
is_owned layers number = is_some (layer_of layers number).owner

-- this is the number of a layer that can change
abbrev pub is_layer_number : ℕ → Bool
is_layer_number number = number == 1 || number == 2 || number == 3

-- this is the number of a layer that stands on another and has a region: 2 or 3
abbrev pub is_upper : ℕ → Bool
is_upper number = number == 2 || number == 3

-- the layer or region with this number, 2 or 3, is in the pair; no other is
abbrev pub is_in : ℕ → Pair → Bool
is_in number pair = if number == 2 then pair.two else if number == 3 then pair.three else false

-- A layer that a device can hold: without an owner it is the unowned layer. That a reliable layer has code is said by
-- how a layer is spelled (`Has` of `LayerFormat`); so are the limits of secrets and of entries.
abbrev pub IsLayer : Layer → Type 0
IsLayer layer = layer.owner ≡ None → layer ≡ layer_without_owner

-- the layers that a device can hold: layer 1 always has an owner and is reliable
pub record IsLayers (layers : Layers) : Type 0 where
  pub owned : IsSome layers.one.owner
  pub reliable : IsTrue layers.one.reliable
  pub two : IsLayer layers.two
  pub three : IsLayer layers.three

-- the layers from 1 up to this one, which is 1, 2 or 3, are all reliable
abbrev pub is_runnable : Layers → ℕ → Bool
is_runnable layers number =
    layers.one.reliable && (nat_lt number 2 || layers.two.reliable) && (nat_lt number 3 || layers.three.reliable)

-- the layer with this number may run
abbrev pub Runnable : Layers → ℕ → Type 0
Runnable layers number = IsTrue (is_runnable layers number)

-- how the layer with this number stands, as a device reports it
abbrev pub layer_standing : Layers → ℕ → Standing
layer_standing layers number =
    if not (is_owned layers number) then stands.Unowned
    else if not (layer_of layers number).reliable then stands.Unreliable
    else if not (is_runnable layers number) then stands.Reliable
    else stands.Runnable
