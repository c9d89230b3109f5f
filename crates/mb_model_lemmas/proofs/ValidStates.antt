-- A state keeps valid regions, whatever is done in its layers and to them.
use Rattle.std.proofs.Common.{◌≡◌, ◌<◌, ◌+◌, ℕ, List, [], ◌∷◌, ◌++◌, length, Bool, true, false, refl, sym, subst, arith, Option, None, Some}
use Rattle.std.specs.Prelude.{◌==◌, ◌&&◌, ◌||◌, not, find, nat_lt, nat_le, IsTrue, if◌then◌else◌}
use Rattle.std.specs.List.{list_any}
use Rattle.std.proofs.lemmas.List.{map-append}
use Rattle.std.proofs.lemmas.Bool.{and_parts}
use Rattle.mb_model.specs.declared.layer.Layer.{Layer}
use Rattle.mb_model.specs.declared.layer.Layers.{Layers}
use Rattle.mb_model.specs.declared.layer.Pair.{Pair}
use Rattle.mb_model.specs.declared.key.KeySeed.{KeySeed}
use Rattle.mb_model.specs.declared.key.PublicKey.{PublicKey}
use Rattle.mb_model.specs.declared.order.ChangeKind.{ChangeKind}
use Rattle.mb_model.specs.declared.order.KeyKind.{KeyKind}
use Rattle.mb_model.specs.declared.order.Order.{Order}
use Rattle.mb_model.specs.declared.entry.Entry.{Entry}
use Rattle.mb_model.specs.declared.entry.Entry.TheVariants.{Change, NewKey, Succession}
use Rattle.mb_model.specs.declared.entry.SignedEntry.{SignedEntry}
use Rattle.mb_model.specs.declared.region.Region.{Region}
use Rattle.mb_model.specs.declared.region.RegionKey.{RegionKey}
use Rattle.mb_model.specs.declared.state.State.{State}
use Rattle.mb_model.specs.owners.Layers.{layer_of, is_upper, is_runnable, Runnable}
use Rattle.mb_model.specs.owners.Rules.{kind_of, change_of, renews, Condition, layer_from_order, kept_regions, after}
use Rattle.mb_model.specs.owners.Log.{figures_of, entries_of, layers_of, number_of, keys_made_by, Ruled, RuledLog}
use Rattle.mb_model.specs.owners.Regions.{region_after, with_key, KeptRightly}
use Rattle.mb_model.specs.owners.Regions.{region_of, with_region}
use Rattle.mb_model.specs.machine.OrderChecks.{view_of}
use Rattle.mb_model.specs.machine.OrderEffects.{entry_signed_by, log_with, next_key, cosigners_of, state_after_succession, state_after_change, state_after_new_key}
use Rattle.mb_model.specs.declared.reply.Refusal.TheVariants.{WrongLayer, WrongCode}
use Rattle.mb_model.specs.machine.Refusals.{refusal_reply}
use Rattle.mb_model.specs.signatures.Signing.{public_of}
use Rattle.mb_model.specs.machine.LayerEvents.{code_in, takes_calls, Outcome, has_name, has_number, put_event, get_event, drop_event, sign_with, sign_event, with_use}
use Rattle.mb_model.specs.memories.Valid.{EachFollows, IsValidRegion, IsValidState, Valid}
use Rattle.mb_model_lemmas.specs.RegionLaws.{KeepsStatesValid, HasValidRegions}
use Rattle.mb_model_lemmas.proofs.Splits.{map_split}
use Rattle.mb_model_lemmas.proofs.RuleLemmas.{placed_can}
use Rattle.mb_model_lemmas.proofs.RegionLemmas.{at_upper}
use Rattle.mb_model_lemmas.proofs.ValidRegions.{valid_over_change, valid_over_new_key, valid_over_other_key, valid_over_succession, valid_over_put, valid_over_drop, valid_over_use}

-- ---- the log

-- a log each of whose entries follows obeys the rules
pub follows_is_ruled : (log : List SignedEntry) → EachFollows log → RuledLog (entries_of log)
follows_is_ruled log each = λ before entry rest split.
    let found = map_split (λ (signed : SignedEntry). signed.entry) log before rest entry split in
    subst (λ (es : List Entry). Ruled (figures_of es) entry) found.before_is (subst (λ (e : Entry). Ruled (figures_of (entries_of found.front)) e) found.y_is (each found.front found.x found.back found.split).ruled)

pub valid_is_ruled : (state : State) → IsValidState state → RuledLog (entries_of state.log)
valid_is_ruled state valid = follows_is_ruled state.log valid.log

pub entries_of-push : (log : List SignedEntry) (signed : SignedEntry) → entries_of (log ++ signed ∷ []) ≡ entries_of log ++ signed.entry ∷ []
entries_of-push log signed = map-append (λ (s : SignedEntry). s.entry) log (signed ∷ [])

-- ---- one region

-- a region of a valid state is valid
pub region_is_valid : (state : State) (L : ℕ) → IsTrue (is_upper L) → IsValidState state → IsValidRegion (entries_of state.log) state.layers L (region_of state L)
region_is_valid state L upper valid = at_upper (λ m. IsValidRegion (entries_of state.log) state.layers m (region_of state m)) L upper valid.two valid.three

at_place : {log : List Entry} {layers : Layers} (b : Bool) (L : ℕ) (new old : Region) → (b ≡ true → IsValidRegion log layers L new) → IsValidRegion log layers L old
    → IsValidRegion log layers L (if b then new else old)
at_place true L new old is was = is refl
at_place false L new old is was = was

-- a valid state stays one with another region, which is valid where the layer has one
pub valid_with : (state : State) (L : ℕ) (region : Region) → IsValidState state
    → (IsTrue (is_upper L) → IsValidRegion (entries_of state.log) state.layers L region) → IsValidState (with_region state L region)
valid_with state L region valid is =
    let at : (m : ℕ) → L ≡ m → IsTrue (is_upper L) → IsValidRegion (entries_of state.log) state.layers m region =
    λ m e upper. subst (λ n. IsValidRegion (entries_of state.log) state.layers n region) e (is upper) in
    record {
      log = valid.log;
      layers = valid.layers;
      codes = valid.codes;
      serial = valid.serial;
      device = valid.device;
      uses = valid.uses;
      two = at_place (L == 2) 2 region state.two (λ e. at 2 (grind (arith, e)) (grind (arith, e))) valid.two;
      three = at_place (L == 3) 3 region state.three (λ e. at 3 (grind (arith, e)) (grind (arith, e))) valid.three;
    }

pub valid_with_region : (state : State) (L : ℕ) (region : Region) → IsTrue (is_upper L) → IsValidState state
    → IsValidRegion (entries_of state.log) state.layers L region → IsValidState (with_region state L region)
valid_with_region state L region upper valid is = valid_with state L region valid (λ u. is)

-- ---- what layers do

-- an event of a layer keeps states valid, where it does so as the layer runs
where_it_runs : (L : ℕ) (event : State → Outcome) → ((state : State) → Runnable state.layers L → IsValidState state → IsValidState (event state).1) → KeepsStatesValid L event
where_it_runs L event keeps = λ state ratchet valid. by state valid (nat_lt L ratchet) (is_runnable state.layers L) (takes_calls (code_in state.codes L)) refl
  where
    by : (state : State) → IsValidState state → (past runs taken : Bool) → is_runnable state.layers L ≡ runs
        → IsValidState (if past || not runs then (refusal_reply WrongLayer, state) else if taken then (refusal_reply WrongCode, state) else event state).1
    by state valid true runs taken is = valid
    by state valid false false taken is = valid
    by state valid false true true is = valid
    by state valid false true false is = keeps state is valid

either_keeps : (b : Bool) (one other : Outcome) → IsValidState one.1 → IsValidState other.1 → IsValidState (if b then one else other).1
either_keeps true one other first second = first
either_keeps false one other first second = second

pub put_valid : (L : ℕ) (name value : List ℕ) (state : State) → Runnable state.layers L → IsValidState state → IsValidState (put_event L name value state).1
unfolding put_event
put_valid L name value state runs valid =
    let region : Region = region_of state L in
    let next : IsValidState (with_region state L _) = valid_with state L _ valid (λ upper. valid_over_put (entries_of state.log) state.layers L name value region (valid_is_ruled state valid) upper runs (region_is_valid state L upper valid)) in
    either_keeps (not (list_any (has_name name) region.secrets) && nat_le 22 (length region.secrets)) _ _ valid next

pub put_keeps : (L : ℕ) (name value : List ℕ) → KeepsStatesValid L (put_event L name value)
put_keeps L name value = where_it_runs L (put_event L name value) (put_valid L name value)

pub get_keeps : (L : ℕ) (name : List ℕ) → KeepsStatesValid L (get_event L name)
unfolding get_event
get_keeps L name = where_it_runs L (get_event L name) (λ state runs valid. valid)

pub drop_valid : (L : ℕ) (name : List ℕ) (state : State) → Runnable state.layers L → IsValidState state → IsValidState (drop_event L name state).1
unfolding drop_event
drop_valid L name state runs valid =
    let region : Region = region_of state L in
    let next : IsValidState (with_region state L _) = valid_with state L _ valid (λ upper. valid_over_drop (entries_of state.log) state.layers L name region upper runs (region_is_valid state L upper valid)) in
    either_keeps (list_any (has_name name) region.secrets) _ _ next valid

pub drop_keeps : (L : ℕ) (name : List ℕ) → KeepsStatesValid L (drop_event L name)
drop_keeps L name = where_it_runs L (drop_event L name) (drop_valid L name)

signed_keeps : (L : ℕ) (found : Option RegionKey) (message : List ℕ) (state : State) → Runnable state.layers L → IsValidState state → IsValidState (sign_with L found message state).1
signed_keeps L None message state runs valid = valid
signed_keeps L (Some key) message state runs valid =
    let region : Region = region_of state L in
    let next : IsValidState (with_region state L _) = valid_with state L _ valid (λ upper. valid_over_use (entries_of state.log) state.layers L key.number region upper runs (region_is_valid state L upper valid)) in
    either_keeps (nat_le 32 key.uses) _ _ valid next

-- one more use of a key leaves a valid state valid
pub use_valid : (L number : ℕ) (state : State) → Runnable state.layers L → IsValidState state
    → IsValidState (with_region state L (record (region_of state L) { keys = with_use number (region_of state L).keys }))
use_valid L number state runs valid =
    valid_with state L _ valid (λ upper. valid_over_use (entries_of state.log) state.layers L number (region_of state L) upper runs (region_is_valid state L upper valid))

pub sign_keeps : (L number : ℕ) (message : List ℕ) → KeepsStatesValid L (sign_event L number message)
unfolding sign_event
sign_keeps L number message =
    where_it_runs L (sign_event L number message) (λ state runs valid. signed_keeps L (find (has_number number) (region_of state L).keys) message state runs valid)

-- ---- orders

-- the device key gives way to the next
pub succeeded_keeps : (state : State) (draw : List ℕ) → HasValidRegions state → HasValidRegions (state_after_succession state draw)
unfolding state_after_succession entry_signed_by
succeeded_keeps state draw valid =
    let past : List Entry = entries_of state.log in
    let key : PublicKey = public_of (next_key (view_of state) draw) in
    let same : entries_of (state_after_succession state draw).log ≡ past ++ Succession (length state.log) key ∷ [] = entries_of-push state.log _ in
    record {
      two = subst (λ es. IsValidRegion es state.layers 2 state.two) (sym same) (valid_over_succession past state.layers (length state.log) key 2 state.two valid.two);
      three = subst (λ es. IsValidRegion es state.layers 3 state.three) (sym same) (valid_over_succession past state.layers (length state.log) key 3 state.three valid.three);
    }

-- an order changes a layer
pub changed_keeps : (state : State) (kind : ChangeKind) (order : Order) (draw : List ℕ) → change_of (kind_of order.act) ≡ Some kind
    → state.layers ≡ layers_of (entries_of state.log) → HasValidRegions state → HasValidRegions (state_after_change state kind order draw)
unfolding state_after_change entry_signed_by
changed_keeps state kind order draw of_kind are valid =
    let past : List Entry = entries_of state.log in
    let k : ℕ = order.layer in
    let by : Pair = cosigners_of order in
    let new : Layer = layer_from_order (layer_of state.layers k) order.act in
    let named : Option PublicKey = if renews (Some kind) k then Some (public_of (next_key (view_of state) draw)) else None in
    let can = placed_can (layer_of state.layers k) order.act kind of_kind in
    let entry : Entry = Change 2 (length state.log) (number_of past + 1) kind k by (after state.layers kind k by new) (kept_regions state.layers kind k by) named in
    let same : entries_of (state_after_change state kind order draw).log ≡ past ++ entry ∷ [] = entries_of-push state.log _ in
    record {
      two = subst (λ es. IsValidRegion es (after state.layers kind k by new) 2 (region_after state.layers kind k by 2 state.two)) (sym same) (valid_over_change past state.layers 2 (length state.log) (number_of past + 1) kind k by new named 2 state.two refl are can valid.two);
      three = subst (λ es. IsValidRegion es (after state.layers kind k by new) 3 (region_after state.layers kind k by 3 state.three)) (sym same) (valid_over_change past state.layers 2 (length state.log) (number_of past + 1) kind k by new named 3 state.three refl are can valid.three);
    }

-- an order makes a key
pub keyed_keeps : (state : State) (L : ℕ) (kind : KeyKind) (draw : List ℕ) → RuledLog (entries_of state.log) → Condition state.layers None L
    → length (region_of state L).keys < 8 → HasValidRegions state → HasValidRegions (state_after_new_key state L kind draw)
unfolding state_after_new_key entry_signed_by
keyed_keeps state L kind draw ruled allowed room valid =
    let past : List Entry = entries_of state.log in
    let seed : KeySeed = next_key (view_of state) draw in
    let size : ℕ = length state.log in
    let key : RegionKey = record { number = keys_made_by past; kind = kind; seed = seed; uses = 0 } in
    let entry : ℕ → Entry = λ m. NewKey size (number_of past) (keys_made_by past) m kind (public_of seed) in
    let same : (m : ℕ) → entries_of (log_with state (entry m)) ≡ past ++ entry m ∷ [] = λ m. entries_of-push state.log _ in
    at_upper (λ m. Condition state.layers None m → length (region_of state m).keys < 8 → HasValidRegions (state_after_new_key state m kind draw)) L (and_parts (is_upper L) (is_runnable state.layers L) allowed).0
    (λ may few. record {
      two = subst (λ es. IsValidRegion es state.layers 2 (with_key key state.two)) (sym (same 2)) (valid_over_new_key past state.layers size 2 kind seed state.two ruled may few valid.two);
      three = subst (λ es. IsValidRegion es state.layers 3 state.three) (sym (same 2)) (valid_over_other_key past state.layers size (number_of past) (keys_made_by past) 2 kind (public_of seed) 3 state.three (λ e. omega (arith, e)) valid.three);
    })
    (λ may few. record {
      two = subst (λ es. IsValidRegion es state.layers 2 state.two) (sym (same 3)) (valid_over_other_key past state.layers size (number_of past) (keys_made_by past) 3 kind (public_of seed) 2 state.two (λ e. omega (arith, e)) valid.two);
      three = subst (λ es. IsValidRegion es state.layers 3 (with_key key state.three)) (sym (same 3)) (valid_over_new_key past state.layers size 3 kind seed state.three ruled may few valid.three);
    })
    allowed room

-- what a state that a device can have has kept
pub kept_rightly : (state : Option State) → Valid state → KeptRightly state
kept_rightly None valid = tt
kept_rightly (Some state) valid = record { two = valid.two.kept; three = valid.three.kept }
