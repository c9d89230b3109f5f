-- What an order adds by the figures, by the state in which the device key has an index for it.
use Rattle.std.proofs.Common.{◌≡◌, ℕ, ◌+◌, List, [], ◌∷◌, ◌++◌, Option, None, Some, Bool, true, false, refl, sym, ap, ◌∙◌}
use Rattle.std.specs.Prelude.{◌||◌, if◌then◌else◌}
use Rattle.mb_model.specs.declared.layer.Layers.{Layers}
use Rattle.mb_model.specs.declared.order.Act.{Act}
use Rattle.mb_model.specs.declared.order.Act.TheVariants as act
use Rattle.mb_model.specs.declared.order.Order.{Order}
use Rattle.mb_model.specs.declared.entry.Entry.{Entry}
use Rattle.mb_model.specs.declared.state.State.{State}
use Rattle.mb_model.specs.declared.state.View.{View}
use Rattle.mb_model.specs.declared.stored.Fate.{Fate}
use Rattle.mb_model.specs.declared.stored.Outgoing.{Outgoing}
use Rattle.mb_model.specs.owners.Rules.{kind_of, change_of, renews}
use Rattle.mb_model.specs.owners.Log.{entries_of, uses_of_device_key}
use Rattle.mb_model.specs.machine.OrderChecks.{change_by, view_of, needs_succession}
use Rattle.mb_model.specs.machine.OrderEffects.{fact_of, names_next, entry_of, succession_entry, ready_for}
use Rattle.mb_model.specs.machine.Work.{outgoing_by, key_by, region_fate, bodies_by, bodies_for, fate_for}
use Rattle.mb_model_lemmas.proofs.AdditionLemmas.{view_ready, ready_layers, entries_are}
use Rattle.mb_model_memory.specs.Commits.{new_entries}

abbrev pub outgoing_key : State → Outgoing
outgoing_key state = record { seed = state.device; uses = uses_of_device_key (entries_of state.log) + 1 }

abbrev pub outgoing_with : Bool → State → Option Outgoing
outgoing_with next state = if next then Some (outgoing_key state) else None

abbrev pub gives_way : State → Order → Bool
gives_way state order = needs_succession (view_of state) order || renews (change_by order) order.layer

abbrev pub own_fate : State → Order → Act → List ℕ → ℕ → Fate
own_fate ready order a draw m = region_fate ready.layers (fact_of ready.layers order a) (key_by (view_of ready) (fact_of ready.layers order a) draw) m

fact_renews : (state : State) (order : Order) (a : Act) → names_next (fact_of state.layers order a) ≡ renews (change_of (kind_of a)) order.layer
fact_renews state order (act.Establish owner trust) = refl
fact_renews state order act.Surrender = refl
fact_renews state order (act.Load payload) = refl
fact_renews state order (act.Emergency payload) = refl
fact_renews state order (act.NewKey kind) = refl

pub outgoing_is : (state : State) (order : Order) (draw : List ℕ) → (bodies_for state order draw).outgoing ≡ outgoing_with (gives_way state order) state
unfolding bodies_by
outgoing_is state order draw = ap (outgoing_by (view_of state)) (fact_renews state order order.act)

pub fate_is : (state : State) (order : Order) (draw : List ℕ) (m : ℕ) → fate_for state order draw m ≡ own_fate (ready_for state order draw) order order.act draw m
unfolding bodies_by
fate_is state order draw m =
    ap (λ (v : View). region_fate state.layers (fact_of state.layers order order.act) (key_by v (fact_of state.layers order order.act) draw) m) (view_ready state order draw)
    ∙ ap (λ (x : Layers). region_fate x (fact_of x order order.act) (key_by (view_of (ready_for state order draw)) (fact_of x order order.act) draw) m) (sym (ready_layers state order draw))

one_or_both : (b : Bool) (first own : Entry) → (if b then first ∷ [] else []) ++ own ∷ [] ≡ (if b then first ∷ own ∷ [] else own ∷ [])
one_or_both false first own = refl
one_or_both true first own = refl

pub new_entries_are : (state : State) (order : Order) (draw : List ℕ) → new_entries state order draw
    ≡ (if needs_succession (view_of state) order
    then succession_entry (view_of state) draw ∷ entry_of (view_of (ready_for state order draw)) (fact_of (ready_for state order draw).layers order order.act) draw ∷ []
    else entry_of (view_of (ready_for state order draw)) (fact_of (ready_for state order draw).layers order order.act) draw ∷ [])
new_entries_are state order draw = entries_are state order draw ∙ one_or_both (needs_succession (view_of state) order) _ _
