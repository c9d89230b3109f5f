-- Keys of regions keep their seeds.
use Rattle.std.proofs.Common.{◌≡◌, ◌≤◌, ◌⊎◌, ℕ, ◌+◌, List, [], ◌∷◌, ◌++◌, inl, inr, Option, None, Some, Bool, true, false, refl, sym, ap, ◌∙◌, subst, arith}
use Rattle.std.specs.Prelude.{◌==◌, nat_lt, All, filter, sum_by, if◌then◌else◌}
use Rattle.std.proofs.lemmas.List.{map-append}
use Rattle.std.proofs.lemmas.List.Elements.{All-nil, All-cons, All-append, All-contains, All-contains_itself, All-map, All-filter, All-weaker}
use Rattle.std.proofs.lemmas.List.Sums.{sum_by-append}
use Rattle.mb_model.specs.declared.entry.SignedEntry.{SignedEntry}
use Rattle.mb_model.specs.declared.order.Act.{Act}
use Rattle.mb_model.specs.declared.order.Act.TheVariants as act
use Rattle.mb_model.specs.declared.order.ChangeKind.{ChangeKind}
use Rattle.mb_model.specs.declared.order.ChangeKind.TheVariants.{Establish, Surrender, Load, Emergency}
use Rattle.mb_model.specs.declared.order.KeyKind.{KeyKind}
use Rattle.mb_model.specs.declared.order.Order.{Order}
use Rattle.mb_model.specs.declared.region.Region.{Region}
use Rattle.mb_model.specs.declared.region.RegionKey.{RegionKey}
use Rattle.mb_model.specs.declared.region.Secret.{Secret}
use Rattle.mb_model.specs.declared.state.State.{State}
use Rattle.mb_model.specs.machine.LayerEvents.{has_number, with_use}
use Rattle.mb_model.specs.owners.Log.{entries_of, keys_in, keys_made_by}
use Rattle.mb_model.specs.machine.Machine.{World, opening_world}
use Rattle.mb_model.specs.machine.OrderChecks.{view_of, needs_succession}
use Rattle.mb_model.specs.machine.OrderEffects.{cosigners_of, key_made, state_after_succession, state_after_change, state_after_new_key, state_after_act, state_after_order, ready_for}
use Rattle.mb_model.specs.owners.Regions.{empty_region, is_epoch, with_key}
use Rattle.mb_model.specs.owners.Rules.{admits}
use Rattle.mb_model.specs.machine.Runs.{BeginsWith}
use Rattle.mb_model_runs.proofs.GrowthLemmas.{obeyed_begins}
use Rattle.mb_model_lemmas.proofs.DemandLemmas.{with_secrets}
use Rattle.mb_model_runs.proofs.KeptByRuns.{with_one_use, IsKept, run_kept}
use Rattle.mb_model_histories.specs.Histories.{ComesAfter, in_this_run, in_a_later_run}
use Rattle.mb_model_histories.specs.NoiseLaws.{WasThere, OldKeysStay}

-- ---- lists of keys

abbrev IsOldOrNew : ℕ → List RegionKey → RegionKey → Type 0
IsOldOrNew made keys key = WasThere keys key ⊎ (made ≤ key.number)

module _ (made : ℕ) (keys : List RegionKey) where
  abbrev AreOldOrNew : List RegionKey → Type 0
  AreOldOrNew list = All (IsOldOrNew made keys) list

  all_there : AreOldOrNew keys
  all_there = All-weaker (λ key. WasThere keys key) (IsOldOrNew made keys) (λ key was. inl was) keys
      (All-weaker _ (λ key. WasThere keys key) (λ key within. (key.uses, within)) keys (All-contains_itself keys))

  used_there : (n : ℕ) (list : List RegionKey) → AreOldOrNew list → AreOldOrNew (with_use n list)
  unfolding with_use
  used_there n list all =
      let once : RegionKey → RegionKey = λ key. if has_number n key then record key { uses = key.uses + 1 } else key in
      All-map (IsOldOrNew made keys) once list (All-weaker (IsOldOrNew made keys) (λ key. IsOldOrNew made keys (once key)) (λ key is. either (has_number n key) key is) list all)
    where
      either : (b : Bool) (key : RegionKey) → IsOldOrNew made keys key → IsOldOrNew made keys (if b then record key { uses = key.uses + 1 } else key)
      either true key (inl was) = inl was
      either true key (inr new) = inr new
      either false key is = is

  after_there : (above admitted : Bool) (region : Region) → AreOldOrNew region.keys
      → AreOldOrNew (if above then region else if admitted then record region { keys = filter (λ key. is_epoch key.kind) region.keys } else empty_region).keys
  after_there true admitted region all = all
  after_there false true region all = All-filter (λ key. is_epoch key.kind) (IsOldOrNew made keys) region.keys all
  after_there false false region all = All-nil (IsOldOrNew made keys)

  more_there : (key : RegionKey) (list : List RegionKey) → made ≤ key.number → AreOldOrNew list → AreOldOrNew (list ++ key ∷ [])
  more_there key list new all = All-append (IsOldOrNew made keys) list (key ∷ []) all (All-cons (IsOldOrNew made keys) key [] (inr new) (All-nil (IsOldOrNew made keys)))

-- ---- the regions of a state

-- each key of the regions is one of these, or new
record HasOldOrNew (made : ℕ) (two three : List RegionKey) (state : State) : Type 0 where
  of_two : AreOldOrNew made two state.two.keys
  of_three : AreOldOrNew made three state.three.keys

-- a region is changed, if it is that of this layer
module _ (made : ℕ) (two three : List RegionKey) (change : Region → Region) (each : (keys : List RegionKey) (region : Region) → AreOldOrNew made keys region.keys → AreOldOrNew made keys (change region).keys) where
  two_changed : (at_two at_three : Bool) (first second : Region) → AreOldOrNew made two first.keys
      → AreOldOrNew made two (if at_two then change (if at_two then first else if at_three then second else empty_region) else first).keys
  two_changed true at_three first second all = each two first all
  two_changed false at_three first second all = all

  three_changed : (layer : ℕ) (at_two at_three : Bool) (first second : Region) → (layer == 2) ≡ at_two → (layer == 3) ≡ at_three → AreOldOrNew made three second.keys
      → AreOldOrNew made three (if at_three then change (if at_two then first else if at_three then second else empty_region) else second).keys
  three_changed layer true true first second is also all = absurd (grind (arith, is, also))
  three_changed layer false true first second is also all = each three second all
  three_changed layer true false first second is also all = all
  three_changed layer false false first second is also all = all

  changed_there : (state next : State) (layer : ℕ) → HasOldOrNew made two three state
      → next.two ≡ (if layer == 2 then change (if layer == 2 then state.two else if layer == 3 then state.three else empty_region) else state.two)
      → next.three ≡ (if layer == 3 then change (if layer == 2 then state.two else if layer == 3 then state.three else empty_region) else state.three)
      → HasOldOrNew made two three next
  changed_there state next layer has is also = record {
    of_two = subst (λ (r : Region). AreOldOrNew made two r.keys) (sym is) (two_changed (layer == 2) (layer == 3) state.two state.three has.of_two);
    of_three = subst (λ (r : Region). AreOldOrNew made three r.keys) (sym also) (three_changed layer (layer == 2) (layer == 3) state.two state.three refl refl has.of_three);
  }

-- ---- counts of keys

made_in : State → ℕ
made_in state = keys_made_by (entries_of state.log)

made_grows : (before after : List SignedEntry) → BeginsWith after before → keys_made_by (entries_of before) ≤ keys_made_by (entries_of after)
unfolding keys_made_by
made_grows before after (more, begins) =
    let entries : entries_of after ≡ entries_of before ++ entries_of more = ap entries_of begins ∙ map-append (λ (signed : SignedEntry). signed.entry) before more in
    omega (arith, ap (sum_by keys_in) entries, sum_by-append keys_in (entries_of before) (entries_of more))

-- ---- orders

module _ (made : ℕ) (two three : List RegionKey) where
  change_there : (state : State) (kind : ChangeKind) (order : Order) (draw : List ℕ) → HasOldOrNew made two three state → HasOldOrNew made two three (state_after_change state kind order draw)
  unfolding state_after_change
  change_there state kind order draw has = record {
    of_two = after_there made two (nat_lt 2 order.layer) (admits state.layers kind order.layer (cosigners_of order) 2) state.two has.of_two;
    of_three = after_there made three (nat_lt 3 order.layer) (admits state.layers kind order.layer (cosigners_of order) 3) state.three has.of_three;
  }

  new_key_there : (state : State) (layer : ℕ) (kind : KeyKind) (draw : List ℕ) → made ≤ made_in state → HasOldOrNew made two three state
      → HasOldOrNew made two three (state_after_new_key state layer kind draw)
  unfolding state_after_new_key made_in
  new_key_there state layer kind draw grown has =
      let key : RegionKey = key_made (view_of state) kind draw in
      changed_there made two three (with_key key) (λ keys region all. more_there made keys key region.keys grown all) state (state_after_new_key state layer kind draw) layer has refl refl

  act_there : (ready : State) (order : Order) (a : Act) (draw : List ℕ) → made ≤ made_in ready → HasOldOrNew made two three ready → HasOldOrNew made two three (state_after_act ready order a draw)
  act_there ready order (act.Establish owner trust) draw grown has = change_there ready Establish order draw has
  act_there ready order act.Surrender draw grown has = change_there ready Surrender order draw has
  act_there ready order (act.Load payload) draw grown has = change_there ready Load order draw has
  act_there ready order (act.Emergency payload) draw grown has = change_there ready Emergency order draw has
  act_there ready order (act.NewKey kind) draw grown has = new_key_there ready order.layer kind draw grown has

  ready_there : (b : Bool) (state : State) (draw : List ℕ) → HasOldOrNew made two three state → HasOldOrNew made two three (if b then state_after_succession state draw else state)
  unfolding state_after_succession
  ready_there true state draw has = record { of_two = has.of_two; of_three = has.of_three }
  ready_there false state draw has = has

  ready_made : (b : Bool) (state : State) (draw : List ℕ) → made ≤ made_in state → made ≤ made_in (if b then state_after_succession state draw else state)
  unfolding state_after_succession made_in
  ready_made true state draw grown = omega (arith, grown, made_grows state.log (state_after_succession state draw).log (_, refl))
  ready_made false state draw grown = grown

  order_there : (state : State) (order : Order) (draw : List ℕ) → made ≤ made_in state → HasOldOrNew made two three state → HasOldOrNew made two three (state_after_order state order draw)
  unfolding state_after_order
  order_there state order draw grown has =
      let b : Bool = needs_succession (view_of state) order in
      act_there (ready_for state order draw) order order.act draw (ready_made b state draw grown) (ready_there b state draw has)

-- ---- steps and histories

-- the keys of the later state are old or new, and it has made as many keys at least
record Kept (sooner later : State) : Type 0 where
  counted : made_in sooner ≤ made_in later
  has : HasOldOrNew (made_in sooner) sooner.two.keys sooner.three.keys later

-- a dead device stays dead
abbrev KeepsKeys : Option State → Option State → Type 0
KeepsKeys None None = Unit {0}
KeepsKeys None (Some later) = ⊥
KeepsKeys (Some sooner) None = Unit {0}
KeepsKeys (Some sooner) (Some later) = Kept sooner later

own_keys : (state : State) → HasOldOrNew (made_in state) state.two.keys state.three.keys state
own_keys state = record { of_two = all_there (made_in state) state.two.keys; of_three = all_there (made_in state) state.three.keys }

keeps_same : (o : Option State) → KeepsKeys o o
keeps_same None = tt
keeps_same (Some state) = record { counted = omega arith; has = own_keys state }

keeps_dead : (o : Option State) → KeepsKeys o None
keeps_dead None = tt
keeps_dead (Some state) = tt

-- keys that were kept twice
kept_on : (made later_made : ℕ) (keys between list : List RegionKey) → made ≤ later_made → AreOldOrNew made keys between → AreOldOrNew later_made between list → AreOldOrNew made keys list
kept_on made later_made keys between list grown first second =
    All-weaker (IsOldOrNew later_made between) (IsOldOrNew made keys) (λ key is. by key is) list second
  where
    by : (key : RegionKey) → IsOldOrNew later_made between key → IsOldOrNew made keys key
    by key (inl (uses, within)) = All-contains (IsOldOrNew made keys) between (record key { uses = uses }) first within
    by key (inr new) = inr (omega (arith, grown, new))

keeps_on : (a b c : Option State) → KeepsKeys a b → KeepsKeys b c → KeepsKeys a c
keeps_on None None None first second = tt
keeps_on None None (Some later) first second = absurd second
keeps_on None (Some between) c first second = absurd first
keeps_on (Some sooner) None None first second = tt
keeps_on (Some sooner) None (Some later) first second = absurd second
keeps_on (Some sooner) (Some between) None first second = tt
keeps_on (Some sooner) (Some between) (Some later) first second = record {
  counted = omega (arith, first.counted, second.counted);
  has = record {
    of_two = kept_on (made_in sooner) (made_in between) sooner.two.keys between.two.keys later.two.keys first.counted first.has.of_two second.has.of_two;
    of_three = kept_on (made_in sooner) (made_in between) sooner.three.keys between.three.keys later.three.keys first.counted first.has.of_three second.has.of_three;
  };
}

secrets_there : (state : State) (layer : ℕ) (secrets : List Secret) → Kept state (with_secrets state layer secrets)
unfolding made_in
secrets_there state layer secrets = record {
  counted = omega arith;
  has = changed_there (made_in state) state.two.keys state.three.keys (λ region. record region { secrets = secrets }) (λ keys region all. all) state _ layer (own_keys state) refl refl;
}

use_there : (state : State) (layer number : ℕ) → Kept state (with_one_use state layer number)
unfolding made_in
use_there state layer number = record {
  counted = omega arith;
  has = changed_there (made_in state) state.two.keys state.three.keys (λ region. record region { keys = with_use number region.keys })
      (λ keys region all. used_there (made_in state) keys number region.keys all) state _ layer (own_keys state) refl refl;
}

keys_kept : IsKept KeepsKeys
unfolding made_in
keys_kept = record {
  same = keeps_same;
  dies = keeps_dead;
  secrets = secrets_there;
  used = use_there;
  called = λ state layer secrets number.
      keeps_on (Some state) (Some (with_secrets state layer secrets)) (Some (with_one_use (with_secrets state layer secrets) layer number))
      (secrets_there state layer secrets) (use_there (with_secrets state layer secrets) layer number);
  order = λ state order draw. record {
    counted = made_grows state.log (state_after_order state order draw).log (obeyed_begins state order draw);
    has = order_there (made_in state) state.two.keys state.three.keys state order draw (omega arith) (own_keys state);
  };
}

keeps_after : (there here : World) → ComesAfter there here → KeepsKeys here.state there.state
keeps_after there here (in_this_run answered run) = run_kept KeepsKeys keys_kept keeps_on here answered there run
keeps_after there here (in_a_later_run answered end run later) =
    keeps_on here.state end.state there.state (run_kept KeepsKeys keys_kept keeps_on here answered end run) (keeps_after there (opening_world end.state) later)

pub old_keys_stay : OldKeysStay
unfolding made_in
old_keys_stay first last sooner later comes was is =
    let kept : Kept sooner later =
    subst (λ (o : Option State). KeepsKeys (Some sooner) o) is (subst (λ (o : Option State). KeepsKeys o last.state) was (keeps_after last first comes)) in
    (kept.has.of_two, kept.has.of_three)
