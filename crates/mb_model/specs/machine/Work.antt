-- What an order appends to the log, and which work it leaves to be done. Is all that an order comes to fixed once it is
-- judged?
use Rattle.std.specs.Prelude.{ℕ, ◌+◌, Bool, ◌||◌, List, [], ◌∷◌, ◌++◌, Option, None, Some, if◌then◌else◌}
use Rattle.mb_model.specs.declared.layer.Layers.{Layers}
use Rattle.mb_model.specs.declared.order.Order.{Order}
use Rattle.mb_model.specs.declared.entry.Entry.{Entry}
use Rattle.mb_model.specs.declared.region.RegionKey.{RegionKey}
use Rattle.mb_model.specs.declared.state.State.{State}
use Rattle.mb_model.specs.declared.state.View.{View}
use Rattle.mb_model.specs.declared.state.Fact.{Fact}
use Rattle.mb_model.specs.declared.state.Fact.TheVariants as fact
use Rattle.mb_model.specs.declared.state.Bodies.{Bodies}
use Rattle.mb_model.specs.declared.stored.Fate.{Fate}
use Rattle.mb_model.specs.declared.stored.Fate.TheVariants.{Keep}
use Rattle.mb_model.specs.declared.stored.Outgoing.{Outgoing}
use Rattle.mb_model.specs.declared.stored.Pending.{Pending}
use Rattle.mb_model.specs.machine.OrderChecks.{view_of, succession_is_due, entries_needed}
use Rattle.mb_model.specs.machine.OrderEffects.{fact_of, names_next, next_key, entry_of}
use Rattle.mb_model.specs.machine.OrderEffects.{succession_entry, device_after, uses_after, key_made}
use Rattle.mb_model.specs.machine.Fates.{change_fate, key_fate}

-- ---- the entries and the keys

-- The view of a state after a succession. `state_after_succession` says the same of a state, and lemmas that both agree
-- (`AdditionLemmas`). By figures alone nothing would show that the state between the two steps is valid.
abbrev pub after_succession : View → List ℕ → View
after_succession view draw = record view {
  length = view.length + 1;
  keys_made = view.keys_made + 1;
  device = next_key view draw;
  uses = 0;
}

-- the view with which the device key has an index for the fact's own entry
abbrev pub ready_by : View → Bool → List ℕ → View
ready_by view next draw = if succession_is_due view.uses next then after_succession view draw else view

-- the entries before the fact's own: a succession, if one is due
abbrev pub first_by : View → Bool → List ℕ → List Entry
first_by view next draw = if succession_is_due view.uses next then succession_entry view draw ∷ [] else []

-- the key that a fact makes in a region
abbrev pub key_by : View → Fact → List ℕ → Option RegionKey
key_by view (fact.Change kind layer cosigned layers kept) draw = None
key_by view (fact.NewKey layer kind) draw = Some (key_made view kind draw)

-- the device key that gives way, by a succession or by the fact's own entry; its uses include the index that it still
-- signs with
abbrev pub outgoing_by : View → Bool → Option Outgoing
outgoing_by view next =
    if succession_is_due view.uses next || next
    then Some (record { seed = view.device; uses = view.uses + 1 })
    else None

-- all that a fact adds to a device: its entries, the device key as it leaves it, and the key of a region
unfoldable pub bodies_by : View → Fact → List ℕ → Bodies
bodies_by view fact draw =
    let ready = ready_by view (names_next fact) draw in
    record {
      entries = first_by view (names_next fact) draw ++ entry_of ready fact draw ∷ [];
      device = device_after (names_next fact) ready draw;
      uses = uses_after (names_next fact) ready;
      outgoing = outgoing_by view (names_next fact);
      key = key_by ready fact draw;
    }

-- all that an order adds
abbrev pub bodies_for : State → Order → List ℕ → Bodies
bodies_for state order draw = bodies_by (view_of state) (fact_of state.layers order order.act) draw

-- ---- the regions

abbrev pub fate_by_new_key : ℕ → Option RegionKey → ℕ → Fate
fate_by_new_key key_layer (Some key) layer = key_fate key_layer key layer
fate_by_new_key key_layer None layer = Keep

-- what becomes of a layer's region, with the key that the fact makes
abbrev pub region_fate : Layers → Fact → Option RegionKey → ℕ → Fate
region_fate layers (fact.Change kind layer cosigned new kept) key region = change_fate layers kind layer cosigned region
region_fate layers (fact.NewKey layer kind) key region = fate_by_new_key layer key region

-- what becomes of a layer's region by an order
abbrev pub fate_for : State → Order → List ℕ → ℕ → Fate
fate_for state order draw region =
    region_fate state.layers (fact_of state.layers order order.act) (bodies_for state order draw).key region

-- the work that is pending from the commit on
unfoldable pub pending_for : State → Order → List ℕ → Pending
pending_for state order draw = record {
  unsigned = entries_needed (view_of state) order;
  outgoing = (bodies_for state order draw).outgoing;
  two = fate_for state order draw 2;
  three = fate_for state order draw 3;
}
