-- No tree is forgotten.
use Rattle.std.proofs.Common.{◌≡◌, ◌≤◌, ◌+◌, ℕ, arith, true, false, List, [], ◌∷◌, ◌++◌, Option, None, Some, refl, sym, ap, subst}
use Rattle.std.specs.Prelude.{IsSome}
use Rattle.mb_ratchet.specs.declared.state.Off.{Off}
use Rattle.mb_model.specs.declared.event.Event.{Event}
use Rattle.mb_model.specs.declared.event.Event.TheVariants as event
use Rattle.mb_model.specs.declared.entry.Entry.{Entry}
use Rattle.mb_model.specs.declared.order.Act.TheVariants as act
use Rattle.mb_model.specs.declared.order.KeyKind.{KeyKind}
use Rattle.mb_model.specs.declared.order.Order.{Order}
use Rattle.mb_model.specs.declared.state.Fact.{Fact}
use Rattle.mb_model.specs.declared.state.Fact.TheVariants as fact
use Rattle.mb_model.specs.declared.state.State.{State}
use Rattle.mb_model.specs.declared.state.View.{View}
use Rattle.mb_model.specs.owners.Log.{keys_in, keys_made_by}
use Rattle.mb_model.specs.machine.OrderChecks.{view_of}
use Rattle.mb_model.specs.machine.OrderEffects.{fact_of, names_next, entry_of}
use Rattle.mb_model.specs.machine.Work.{ready_by, first_by, bodies_by, bodies_for}
use Rattle.mb_model_lemmas.proofs.LogLemmas.{made-push}
use Rattle.mb_outbound.specs.declared.kept.RegionTree.{RegionTree}
use Rattle.mb_outbound.specs.KeptTrees.{IsKeptFor}
use Rattle.mb_device.specs.declared.device.Device.TheVariants as device
use Rattle.mb_device.specs.KeptTrees.{HasTreeFor}
use Rattle.mb_device.specs.TreeCounterExamples.{TreeCounterExamples}

none_off : (state : Off) (e : Event) → HasTreeFor (device.Off state) e → ⊥
none_off state event.Boot has = has
none_off state event.Off has = has
none_off state event.Tamper has = has
none_off state event.Status has = has
none_off state event.Go has = has
none_off state (event.Cut count tear) has = has
none_off state (event.Order text draw) has = has
none_off state (event.Put M name value) has = has
none_off state (event.Get M name) has = has
none_off state (event.Drop M name) has = has
none_off state (event.Sign M key message) has = has
none_off state (event.Call M None input) has = has
none_off state (event.Call M (Some key) input) has = has

-- the entries of an order for a key of a region name one key at least
named_by : (items : List Entry) (view : View) (made : Fact) (layer : ℕ) (kind : KeyKind) (draw : List ℕ) → made ≡ fact.NewKey layer kind → 1 ≤ keys_made_by (items ++ entry_of view made draw ∷ [])
named_by items view made layer kind draw is =
    let counted : keys_made_by (items ++ entry_of view made draw ∷ []) ≡ keys_made_by items + keys_in (entry_of view made draw) = made-push items (entry_of view made draw) in
    let one : keys_in (entry_of view made draw) ≡ 1 = ap (λ (f : Fact). keys_in (entry_of view f draw)) is in
    omega (arith, counted, one)

one_at_least : (state : State) (order : Order) (kind : KeyKind) (draw : List ℕ) → order.act ≡ act.NewKey kind → 1 ≤ keys_made_by (bodies_for state order draw).entries
unfolding bodies_by
one_at_least state order kind draw is =
    let made : Fact = fact_of state.layers order order.act in
    named_by (first_by (view_of state) (names_next made) draw) (ready_by (view_of state) (names_next made) draw) made order.layer kind draw (ap (fact_of state.layers order) is)

pub no_tree_forgotten : TreeCounterExamples
no_tree_forgotten = record {
  signed = λ L key index message statement before kept. kept.signed index statement refl;
  read = λ trees own name value is kept. kept.region refl own.place own.number (subst (λ (t : Option RegionTree). IsKeptFor t own.place own.number) (sym is) (refl, refl));
  device_tree = λ trees L key index message statement some kept. let gone : false ≡ true = kept.device refl some in absurd (cc);
  between = λ up running after serial number size one two three some none kept. let gone : false ≡ true = subst IsSome none (kept.device refl some) in absurd (cc);
  done = λ up after text draw number size none kept. let gone : false ≡ true = subst IsSome none (kept refl) in absurd (cc);
  built = λ before counted has costs. absurd (omega (arith, costs has));
  built_two = λ before counted has costs. absurd (omega (arith, costs has));
  no_key = λ state order kind text draw spelled is makes. absurd (omega (arith, one_at_least state order kind draw is, makes order spelled));
  refused = λ own number left. let gone = left refl in absurd (cc);
  ordered = λ before after number apart left. apart (left refl);
  other = λ trees own key message is apart kept. apart (subst (λ (t : Option RegionTree). IsKeptFor t own.place key) is kept).1;
  off = none_off;
}
