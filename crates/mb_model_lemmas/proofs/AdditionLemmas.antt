-- What a fact adds by the figures of a state is what obeying the order leaves of that state.
use Rattle.std.proofs.Common.{◌≡◌, ℕ, List, [], ◌∷◌, ◌++◌, true, false, refl, sym, ap, ◌∙◌, arith, length-append}
use Rattle.std.specs.Prelude.{if◌then◌else◌}
use Rattle.mb_model.specs.declared.layer.Layers.{Layers}
use Rattle.mb_model.specs.declared.order.Act.{Act}
use Rattle.mb_model.specs.declared.order.Act.TheVariants as act
use Rattle.mb_model.specs.declared.order.Order.{Order}
use Rattle.mb_model.specs.declared.entry.Entry.{Entry}
use Rattle.mb_model.specs.declared.state.State.{State}
use Rattle.mb_model.specs.declared.state.View.{View}
use Rattle.mb_model.specs.owners.Rules.{kind_of, change_of, renews}
use Rattle.mb_model.specs.owners.Log.{entries_of, number_of, uses_of_device_key, keys_made_by}
use Rattle.mb_model.specs.machine.OrderChecks.{view_of, succession_is_due, needs_succession}
use Rattle.mb_model.specs.machine.OrderEffects.{fact_of, names_next, next_key, layers_after, entry_of, succession_entry, device_after, uses_after, state_after_succession, state_after_change, state_after_new_key, ready_for, state_after_act, state_after_order}
use Rattle.mb_model.specs.machine.Work.{after_succession, ready_by, first_by, bodies_for, bodies_by}
use Rattle.mb_model_lemmas.proofs.LogLemmas.{number_of-push, used-push, made-push}
use Rattle.mb_model_lemmas.proofs.ValidLogs.{entries_of-signed}

-- ---- over a succession

same_view : (v : View) (a b c d a' b' c' d' : ℕ) → a ≡ a' → b ≡ b' → c ≡ c' → d ≡ d'
    → ◌≡◌ {A = View} (record v { length = a; number = b; keys_made = c; uses = d }) (record v { length = a'; number = b'; keys_made = c'; uses = d' })
same_view v a b c d a' b' c' d' ea eb ec ed = cc

view_after : (state : State) (draw : List ℕ) → view_of (state_after_succession state draw) ≡ after_succession (view_of state) draw
unfolding state_after_succession
view_after state draw =
    let entry : Entry = succession_entry (view_of state) draw in
    let log_is : entries_of (state_after_succession state draw).log ≡ entries_of state.log ++ entry ∷ [] = entries_of-signed state entry in
    let number_is : number_of (entries_of (state_after_succession state draw).log) ≡ number_of (entries_of state.log) = ap number_of log_is ∙ number_of-push (entries_of state.log) entry ∙ omega arith in
    same_view (record (view_of state) { device = next_key (view_of state) draw }) _ _ _ _ _ _ _ _
    (length-append state.log _)
    number_is
    (ap keys_made_by log_is ∙ made-push (entries_of state.log) entry)
    (ap uses_of_device_key log_is ∙ used-push (entries_of state.log) entry)

fact_renews : (layers : Layers) (order : Order) (a : Act) → names_next (fact_of layers order a) ≡ renews (change_of (kind_of a)) order.layer
fact_renews layers order (act.Establish owner trust) = refl
fact_renews layers order act.Surrender = refl
fact_renews layers order (act.Load payload) = refl
fact_renews layers order (act.Emergency payload) = refl
fact_renews layers order (act.NewKey kind) = refl

-- the figures that are ready are those of the state that is
pub view_ready : (state : State) (order : Order) (draw : List ℕ)
    → ready_by (view_of state) (names_next (fact_of state.layers order order.act)) draw ≡ view_of (ready_for state order draw)
view_ready state order draw =
    ap (λ b. if succession_is_due (view_of state).uses b then after_succession (view_of state) draw else view_of state) (fact_renews state.layers order order.act)
    ∙ elim (needs_succession (view_of state) order) as (λ b. (if b then after_succession (view_of state) draw else view_of state) ≡ view_of (if b then state_after_succession state draw else state)) [
      | false ↦ refl
      | true ↦ sym (view_after state draw)
    ]

pub ready_layers : (state : State) (order : Order) (draw : List ℕ) → (ready_for state order draw).layers ≡ state.layers
unfolding state_after_succession
ready_layers state order draw =
    elim (needs_succession (view_of state) order) as (λ b. (if b then state_after_succession state draw else state).layers ≡ state.layers) [
      | false ↦ refl
      | true ↦ refl
    ]

-- ---- what is left

layers_out : (ready : State) (order : Order) (a : Act) (draw : List ℕ) → layers_after ready.layers (fact_of ready.layers order a) ≡ (state_after_act ready order a draw).layers
unfolding state_after_change state_after_new_key
layers_out ready order (act.Establish owner trust) draw = refl
layers_out ready order act.Surrender draw = refl
layers_out ready order (act.Load payload) draw = refl
layers_out ready order (act.Emergency payload) draw = refl
layers_out ready order (act.NewKey kind) draw = refl

pub layers_are : (state : State) (order : Order) (draw : List ℕ) → layers_after state.layers (fact_of state.layers order order.act) ≡ (state_after_order state order draw).layers
unfolding state_after_order
layers_are state order draw =
    ap (λ (x : Layers). layers_after x (fact_of x order order.act)) (sym (ready_layers state order draw))
    ∙ layers_out (ready_for state order draw) order order.act draw

device_out : (ready : State) (order : Order) (a : Act) (draw : List ℕ) → device_after (names_next (fact_of ready.layers order a)) (view_of ready) draw ≡ (state_after_act ready order a draw).device
unfolding state_after_change state_after_new_key
device_out ready order (act.Establish owner trust) draw = refl
device_out ready order act.Surrender draw = refl
device_out ready order (act.Load payload) draw = refl
device_out ready order (act.Emergency payload) draw = refl
device_out ready order (act.NewKey kind) draw = refl

uses_out : (ready : State) (order : Order) (a : Act) (draw : List ℕ) → uses_after (names_next (fact_of ready.layers order a)) (view_of ready) ≡ (state_after_act ready order a draw).uses
unfolding state_after_change state_after_new_key
uses_out ready order (act.Establish owner trust) draw = refl
uses_out ready order act.Surrender draw = refl
uses_out ready order (act.Load payload) draw = refl
uses_out ready order (act.Emergency payload) draw = refl
uses_out ready order (act.NewKey kind) draw = refl

pub device_is : (state : State) (order : Order) (draw : List ℕ) → (bodies_for state order draw).device ≡ (state_after_order state order draw).device
unfolding state_after_order bodies_by
device_is state order draw =
    ap (λ (v : View). device_after (names_next (fact_of state.layers order order.act)) v draw) (view_ready state order draw)
    ∙ ap (λ (x : Layers). device_after (names_next (fact_of x order order.act)) (view_of (ready_for state order draw)) draw) (sym (ready_layers state order draw))
    ∙ device_out (ready_for state order draw) order order.act draw

pub uses_are : (state : State) (order : Order) (draw : List ℕ) → (bodies_for state order draw).uses ≡ (state_after_order state order draw).uses
unfolding state_after_order bodies_by
uses_are state order draw =
    ap (λ (v : View). uses_after (names_next (fact_of state.layers order order.act)) v) (view_ready state order draw)
    ∙ ap (λ (x : Layers). uses_after (names_next (fact_of x order order.act)) (view_of (ready_for state order draw))) (sym (ready_layers state order draw))
    ∙ uses_out (ready_for state order draw) order order.act draw

-- the entries: that of a succession, where one is needed, and the order's own by the state that is ready for it
pub entries_are : (state : State) (order : Order) (draw : List ℕ)
    → (bodies_for state order draw).entries
    ≡ (if needs_succession (view_of state) order then succession_entry (view_of state) draw ∷ [] else [])
    ++ entry_of (view_of (ready_for state order draw)) (fact_of (ready_for state order draw).layers order order.act) draw ∷ []
unfolding bodies_by
entries_are state order draw =
    ap (λ (v : View). first_by (view_of state) (names_next (fact_of state.layers order order.act)) draw ++ entry_of v (fact_of state.layers order order.act) draw ∷ []) (view_ready state order draw)
    ∙ ap (λ (x : Layers). first_by (view_of state) (names_next (fact_of state.layers order order.act)) draw ++ entry_of (view_of (ready_for state order draw)) (fact_of x order order.act) draw ∷ []) (sym (ready_layers state order draw))
    ∙ ap (λ b. (if succession_is_due (view_of state).uses b then succession_entry (view_of state) draw ∷ [] else []) ++ entry_of (view_of (ready_for state order draw)) (fact_of (ready_for state order draw).layers order order.act) draw ∷ []) (fact_renews state.layers order order.act)
