-- What an order that passes does. What of the device has changed afterwards, and which entries record it?
use Rattle.std.specs.Prelude.{ℕ, ◌+◌, ◌==◌, Bool, false, if◌then◌else◌}
use Rattle.std.specs.Prelude.{List, [], ◌∷◌, ◌++◌, Option, None, Some}
use Rattle.std.specs.List.{list_any}
use Rattle.mb_model.specs.declared.key.KeySeed.{KeySeed}
use Rattle.mb_model.specs.declared.key.PublicKey.{PublicKey}
use Rattle.mb_model.specs.declared.layer.Layers.{Layers}
use Rattle.mb_model.specs.declared.layer.Pair.{Pair}
use Rattle.mb_model.specs.declared.order.Order.{Order}
use Rattle.mb_model.specs.declared.order.Act.{Act}
use Rattle.mb_model.specs.declared.order.Act.TheVariants as act
use Rattle.mb_model.specs.declared.order.ChangeKind.{ChangeKind}
use Rattle.mb_model.specs.declared.order.ChangeKind.TheVariants.{Establish, Surrender, Load, Emergency}
use Rattle.mb_model.specs.declared.order.KeyKind.{KeyKind}
use Rattle.mb_model.specs.declared.entry.Entry.{Entry}
use Rattle.mb_model.specs.declared.entry.Entry.TheVariants.{Change, NewKey, Succession}
use Rattle.mb_model.specs.declared.entry.SignedEntry.{SignedEntry}
use Rattle.mb_model.specs.declared.region.RegionKey.{RegionKey}
use Rattle.mb_model.specs.declared.state.Codes.{Codes}
use Rattle.mb_model.specs.declared.state.State.{State}
use Rattle.mb_model.specs.declared.state.View.{View}
use Rattle.mb_model.specs.declared.state.Fact.{Fact}
use Rattle.mb_model.specs.declared.state.Fact.TheVariants as fact
use Rattle.mb_model.specs.owners.Layers.{layer_of}
use Rattle.mb_model.specs.owners.Rules.{renews}
use Rattle.mb_model.specs.owners.Rules.{layer_from_order, after, kept_regions}
use Rattle.mb_model.specs.owners.Log.{entries_of, uses_of_device_key}
use Rattle.mb_model.specs.owners.Regions.{region_after, with_key}
use Rattle.mb_model.specs.owners.Born.{born_key}
use Rattle.mb_model.specs.signatures.Signing.{public_of, signature_of}
use Rattle.mb_model.specs.machine.SignedTexts.{entry_text}
use Rattle.mb_model.specs.owners.Regions.{region_of, with_region}
use Rattle.mb_model.specs.machine.OrderChecks.{view_of, needs_succession}

-- the layers above that countersigned
abbrev pub cosigners_of : Order → Pair
cosigners_of order = record {
  two = list_any (λ by. by.layer == 2) order.countersignatures;
  three = list_any (λ by. by.layer == 3) order.countersignatures;
}

-- what a change makes true: which layers there are afterwards, and which regions are kept
abbrev pub change_fact : Layers → ChangeKind → Order → Fact
change_fact layers kind order = fact.Change
    kind
    order.layer
    (cosigners_of order)
    (after layers kind order.layer (cosigners_of order) (layer_from_order (layer_of layers order.layer) order.act))
    (kept_regions layers kind order.layer (cosigners_of order))

-- what an order makes true
abbrev pub fact_of : Layers → Order → Act → Fact
fact_of layers order (act.Establish owner trust) = change_fact layers Establish order
fact_of layers order act.Surrender = change_fact layers Surrender order
fact_of layers order (act.Load payload) = change_fact layers Load order
fact_of layers order (act.Emergency payload) = change_fact layers Emergency order
fact_of layers order (act.NewKey key_kind) = fact.NewKey order.layer key_kind

-- the fact makes the next device key: it is an ordinary load of layer 1
abbrev pub names_next : Fact → Bool
names_next (fact.Change kind layer cosigned layers kept) = renews (Some kind) layer
names_next (fact.NewKey layer kind) = false

-- the layers afterwards
abbrev pub layers_after : Layers → Fact → Layers
layers_after layers (fact.Change kind layer cosigned new kept) = new
layers_after layers (fact.NewKey layer kind) = layers

-- the key that the device makes next
abbrev pub next_key : View → List ℕ → KeySeed
next_key view draw = born_key draw view.serial view.keys_made

-- the next device key, if one is made
abbrev pub next_device_key : Bool → View → List ℕ → Option PublicKey
next_device_key next view draw = if next then Some (public_of (next_key view draw)) else None

-- The entry that records a fact. That of a change has version 2.
abbrev pub entry_of : View → Fact → List ℕ → Entry
entry_of view (fact.Change kind layer cosigned layers kept) draw = Change
    2
    view.length
    (view.number + 1)
    kind
    layer
    cosigned
    layers
    kept
    (next_device_key (renews (Some kind) layer) view draw)
entry_of view (fact.NewKey layer kind) draw =
    NewKey view.length view.number view.keys_made layer kind (public_of (next_key view draw))

-- the entry by which the device key gives way to the next
abbrev pub succession_entry : View → List ℕ → Entry
succession_entry view draw = Succession view.length (public_of (next_key view draw))

-- the device key from now on, and how many of its indices are used
abbrev pub device_after : Bool → View → List ℕ → KeySeed
device_after next view draw = if next then next_key view draw else view.device

abbrev pub uses_after : Bool → View → ℕ
uses_after next view = if next then 0 else view.uses + 1

-- the key that is made in a region
abbrev pub key_made : View → KeyKind → List ℕ → RegionKey
key_made view kind draw = record { number = view.keys_made; kind = kind; seed = next_key view draw; uses = 0 }

-- ---- what an order that passes leaves

-- an entry signed by a key at an index
unfoldable pub entry_signed_by : KeySeed → ℕ → Entry → SignedEntry
entry_signed_by key index entry = record { entry = entry; signature = signature_of key index (entry_text entry) }

-- The log with one more entry, signed by the device key at its next index. That is the index that the log gives; in a
-- valid state the count that the state keeps is equal.
abbrev pub log_with : State → Entry → List SignedEntry
log_with state entry = state.log ++ entry_signed_by state.device (uses_of_device_key (entries_of state.log)) entry ∷ []

-- the state after a succession: the device key gave way to the next, which it named with its last index
unfoldable pub state_after_succession : State → List ℕ → State
state_after_succession state draw = record state {
  log = log_with state (succession_entry (view_of state) draw);
  device = next_key (view_of state) draw;
  uses = 0;
}

-- the code that an order leaves in its layer
abbrev pub code_after : Option (List ℕ) → Act → Option (List ℕ)
code_after old (act.Establish owner trust) = None
code_after old act.Surrender = None
code_after old (act.Load payload) = Some payload.code
code_after old (act.Emergency payload) = Some payload.code
code_after old (act.NewKey key_kind) = old

abbrev pub codes_after : Codes → ℕ → Act → Codes
codes_after old changed order = record {
  one = if changed == 1 then code_after old.one order else old.one;
  two = if changed == 2 then code_after old.two order else old.two;
  three = if changed == 3 then code_after old.three order else old.three;
}

-- the state after a change of a layer: layers and regions follow the rules, and the log records it
unfoldable pub state_after_change : State → ChangeKind → Order → List ℕ → State
state_after_change state kind order draw =
    let fact = change_fact state.layers kind order in
    let next = names_next fact in
    record state {
      layers = layers_after state.layers fact;
      codes = codes_after state.codes order.layer order.act;
      log = log_with state (entry_of (view_of state) fact draw);
      device = device_after next (view_of state) draw;
      uses = uses_after next (view_of state);
      two = region_after state.layers kind order.layer (cosigners_of order) 2 state.two;
      three = region_after state.layers kind order.layer (cosigners_of order) 3 state.three;
    }

-- the state after a new key: it stands in the region of a layer, and the log records it
unfoldable pub state_after_new_key : State → ℕ → KeyKind → List ℕ → State
state_after_new_key state layer kind draw =
    with_region
    (record state {
      log = log_with state (entry_of (view_of state) (fact.NewKey layer kind) draw);
      uses = uses_after false (view_of state);
    })
    layer (with_key (key_made (view_of state) kind draw) (region_of state layer))

-- the state in which the device key has an index for the order: after a succession, if one is needed
abbrev pub ready_for : State → Order → List ℕ → State
ready_for state order draw = if needs_succession (view_of state) order then state_after_succession state draw else state

-- the order's own entry, from a state in which the device key has an index for it
abbrev pub own_entry : State → Order → List ℕ → Entry
own_entry ready order draw = entry_of (view_of ready) (fact_of ready.layers order order.act) draw

-- what the order does to a state in which the device key has an index for it
abbrev pub state_after_act : State → Order → Act → List ℕ → State
state_after_act ready order (act.Establish owner trust) draw = state_after_change ready Establish order draw
state_after_act ready order act.Surrender draw = state_after_change ready Surrender order draw
state_after_act ready order (act.Load payload) draw = state_after_change ready Load order draw
state_after_act ready order (act.Emergency payload) draw = state_after_change ready Emergency order draw
state_after_act ready order (act.NewKey key_kind) draw = state_after_new_key ready order.layer key_kind draw

-- the state after an order that passes; its keys are derived from the draw
unfoldable pub state_after_order : State → Order → List ℕ → State
state_after_order state order draw = state_after_act (ready_for state order draw) order order.act draw
