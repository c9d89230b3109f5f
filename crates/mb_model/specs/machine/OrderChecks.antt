-- What an order has to pass. Is it obeyed only if its owners may give it?
use Rattle.std.specs.Prelude.{◌≡◌, ℕ, ◌+◌, ◌<◌, ◌≤◌, ◌==◌, Bool, not, ◌&&◌, if◌then◌else◌}
use Rattle.std.specs.Prelude.{◌⊎◌, List, [], ◌∷◌, length, All, Option}
use Rattle.mb_model.specs.declared.limits.TheConstants.{LAST_INDEX, ENTRY_LIMIT, KEY_LIMIT}
use Rattle.mb_model.specs.declared.order.Order.{Order}
use Rattle.mb_model.specs.declared.order.Act.{Act}
use Rattle.mb_model.specs.declared.order.Act.TheVariants as act
use Rattle.mb_model.specs.declared.order.ChangeKind.{ChangeKind}
use Rattle.mb_model.specs.declared.order.Target.{Target}
use Rattle.mb_model.specs.declared.order.Countersignature.{Countersignature}
use Rattle.mb_model.specs.declared.state.State.{State}
use Rattle.mb_model.specs.declared.state.View.{View}
use Rattle.mb_model.specs.owners.Layers.{layer_of}
use Rattle.mb_model.specs.owners.Rules.{kind_of, change_of, authority, Condition, TargetHolds, IsFirstFailing, renews}
use Rattle.mb_model.specs.owners.Log.{entries_of, number_of, uses_of_device_key, keys_made_by}
use Rattle.mb_model.specs.records.OrderFormat.{order_body}
use Rattle.mb_model.specs.machine.SignedTexts.{order_text, countersigned_text, IsSignedBy}
use Rattle.mb_model.specs.declared.reply.OrderRefusal.{OrderRefusal}
use Rattle.mb_model.specs.declared.reply.OrderRefusal.TheVariants.{WrongTarget, WrongState, WrongSignature}
use Rattle.mb_model.specs.declared.reply.OrderRefusal.TheVariants.{WrongCountersignature, LogFull, KeysFull}

-- the part of a state by which its orders are judged
abbrev pub view_of : State → View
view_of state = record {
  serial = state.serial;
  layers = state.layers;
  length = length state.log;
  number = number_of (entries_of state.log);
  keys_made = keys_made_by (entries_of state.log);
  device = state.device;
  uses = uses_of_device_key (entries_of state.log);
  keys_two = length state.two.keys;
  keys_three = length state.three.keys;
}

-- how many keys the region of layer 2 or 3 has; no other layer has one
abbrev pub region_keys : View → ℕ → ℕ
region_keys view layer = if layer == 2 then view.keys_two else if layer == 3 then view.keys_three else 0

-- ---- what the checks of an order look at

-- the change that the order makes: none if it makes a new key
abbrev pub change_by : Order → Option ChangeKind
change_by order = change_of (kind_of order.act)

abbrev pub TargetHoldsIn : View → Target → Type 0
TargetHoldsIn view target = TargetHolds view.serial view.layers view.length target

abbrev pub TargetsHold : View → Order → Type 0
TargetsHold view order = All (TargetHoldsIn view) order.targets

abbrev pub MayBeGiven : View → Order → Type 0
MayBeGiven view order = Condition view.layers (change_by order) order.layer

-- the owner in charge signed the order
abbrev pub IsSigned : View → Order → Type 0
IsSigned view order =
    IsSignedBy (authority view.layers (change_by order) order.layer) (order_text (order_body order)) order.signature

-- the countersignature is by the owner of the layer that it names
abbrev pub IsCountersigned : View → Order → Countersignature → Type 0
IsCountersigned view order by =
    IsSignedBy (layer_of view.layers by.layer).owner (countersigned_text by.layer (order_body order)) by.signature

-- The last index of a device key signs only an entry that names the next key: with so many uses, a succession is due
-- before any other.
abbrev pub succession_is_due : ℕ → Bool → Bool
succession_is_due uses names_next = uses == LAST_INDEX && not names_next

abbrev pub needs_succession : View → Order → Bool
needs_succession view order = succession_is_due view.uses (renews (change_by order) order.layer)

-- how many entries are appended with this one: the succession too, if it is due
abbrev pub needed_with : ℕ → Bool → ℕ
needed_with uses names_next = if succession_is_due uses names_next then 2 else 1

-- the log has room for this entry, and for the succession, if it is due
abbrev pub HasRoomWith : View → Bool → Type 0
HasRoomWith view names_next = view.length + needed_with view.uses names_next ≤ ENTRY_LIMIT

-- how many entries the order appends
abbrev pub entries_needed : View → Order → ℕ
entries_needed view order = needed_with view.uses (renews (change_by order) order.layer)

-- the log has room for the entries of the order
abbrev pub LogHasRoom : View → Order → Type 0
LogHasRoom view order = HasRoomWith view (renews (change_by order) order.layer)

-- if the order makes a key, its region has room for it
abbrev pub RegionHasRoom : View → ℕ → Act → Type 0
RegionHasRoom view layer (act.NewKey key_kind) = region_keys view layer < KEY_LIMIT
RegionHasRoom view layer (act.Establish owner trust) = Unit {0}
RegionHasRoom view layer act.Surrender = Unit {0}
RegionHasRoom view layer (act.Load payload) = Unit {0}
RegionHasRoom view layer (act.Emergency payload) = Unit {0}

-- ---- the list of them

-- a check of an order: what has to hold, and which refusals there can be if it does not
pub record Check : Type 1 where
  pub Holds : Type 0
  pub IsRefusal : OrderRefusal → Type 0

-- this has to hold, and there is one refusal
abbrev pub one_check : Type 0 → OrderRefusal → Check
one_check Holds refusal = record { Holds = Holds; IsRefusal = λ why. (why ≡ refusal) × (Holds → ⊥) }

-- this has to hold of each item of a list, and the refusal tells the first of which it does not
abbrev pub each_check : {A : Type 0} → List A → (A → Type 0) → (ℕ → A → OrderRefusal) → Check
each_check {A} items Holds refusal = record {
  Holds = All Holds items;
  IsRefusal = λ why. (index : ℕ) × (item : A) × (why ≡ refusal index item) × IsFirstFailing Holds items index item;
}

-- the checks of an order, in the order in which they are tried
abbrev pub checks_of : View → Order → List Check
checks_of view order =
    each_check order.targets (TargetHoldsIn view) (λ index target. WrongTarget index)
    ∷ one_check (MayBeGiven view order) WrongState
    ∷ one_check (IsSigned view order) WrongSignature
    ∷ each_check order.countersignatures (IsCountersigned view order) (λ index by. WrongCountersignature by.layer)
    ∷ one_check (LogHasRoom view order) LogFull
    ∷ one_check (RegionHasRoom view order.layer order.act) KeysFull
    ∷ []

-- each check holds
abbrev pub EachHolds : List Check → Type 0
EachHolds [] = Unit {0}
EachHolds (check ∷ later) = check.Holds × EachHolds later

-- this is the refusal of the first check that does not hold
abbrev pub IsFirstRefusal : List Check → OrderRefusal → Type 0
IsFirstRefusal [] why = ⊥
IsFirstRefusal (check ∷ later) why = check.IsRefusal why ⊎ (check.Holds × IsFirstRefusal later why)

-- the order passes every check
pub record Passes (view : View) (order : Order) : Type 0 where
  pub each : EachHolds (checks_of view order)

-- the order passes every check before one, and is refused for failing that one
abbrev pub Fails : View → Order → OrderRefusal → Type 0
Fails view order why = IsFirstRefusal (checks_of view order) why
