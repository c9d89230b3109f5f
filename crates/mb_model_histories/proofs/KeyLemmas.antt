-- Keys that have one seed were derived from one text, or two texts have one hash.
use Rattle.std.proofs.Common.{◌≡◌, ◌≤◌, ◌<◌, ◌⊎◌, ℕ, ◌+◌, ◌^◌, List, [], ◌∷◌, ◌++◌, length, inl, inr, Option, None, Some, Bool, true, false, true≢false, refl, sym, ap, ◌∙◌, subst, arith, length-append}
use Rattle.std.specs.Prelude.{◌==◌, nat_lt, All, Contains, filter, if◌then◌else◌}
use Rattle.std.specs.Int.{w32, to_be_bytes}
use Rattle.sha2.specs.Sha256.{sha256}
use Rattle.std.proofs.lemmas.List.Elements.{All-nil, All-cons, All-append, All-contains, All-map, All-filter, All-weaker}
use Rattle.mb_format.specs.Combinators.{same_bytes}
use Rattle.mb_format.proofs.Fields.{same_bytes-refl, same_bytes-true}
use Rattle.mb_model.specs.declared.entry.Entry.TheVariants.{NewKey}
use Rattle.mb_model.specs.declared.event.Answered.{Answered}
use Rattle.mb_model.specs.declared.key.KeySeed.{KeySeed}
use Rattle.mb_model.specs.declared.key.PublicKey.{PublicKey}
use Rattle.mb_model.specs.declared.order.Act.{Act}
use Rattle.mb_model.specs.declared.order.Act.TheVariants as act
use Rattle.mb_model.specs.declared.order.ChangeKind.{ChangeKind}
use Rattle.mb_model.specs.declared.order.ChangeKind.TheVariants.{Establish, Surrender, Load, Emergency}
use Rattle.mb_model.specs.declared.order.KeyKind.{KeyKind}
use Rattle.mb_model.specs.declared.order.Order.{Order}
use Rattle.mb_model.specs.declared.region.Region.{Region}
use Rattle.mb_model.specs.declared.region.RegionKey.{RegionKey}
use Rattle.mb_model.specs.declared.separators.TheConstants.{KEY_SECRET, OFFICER_SECRET}
use Rattle.mb_model.specs.declared.region.Secret.{Secret}
use Rattle.mb_model.specs.declared.state.State.{State}
use Rattle.mb_model.specs.owners.Born.{born_key, officer_key}
use Rattle.mb_model.specs.memories.Factory.{state_at_birth}
use Rattle.mb_model.specs.machine.LayerEvents.{has_number, with_use}
use Rattle.mb_model.specs.owners.Log.{entries_of}
use Rattle.mb_model.specs.machine.Machine.{opening_world}
use Rattle.mb_model.specs.machine.OrderChecks.{view_of, needs_succession}
use Rattle.mb_model.specs.machine.OrderEffects.{cosigners_of, key_made, state_after_succession, state_after_change, state_after_new_key, state_after_act, state_after_order, ready_for}
use Rattle.mb_model.specs.owners.Regions.{empty_region, is_epoch, region_of, with_key, KeyAdmitted}
use Rattle.mb_model.specs.owners.Rules.{admits}
use Rattle.mb_model.specs.memories.Valid.{IsValidState}
use Rattle.mb_model.proofs.KeyLemmas.{same_parts, word_same}
use Rattle.mb_model_lemmas.proofs.FactoryLemmas.{birth_is_valid}
use Rattle.mb_model_lemmas.proofs.LineLemmas.{cons_same}
use Rattle.mb_model_lemmas.proofs.LogLemmas.{made-le-length, length-entries_of}
use Rattle.mb_model_lemmas.proofs.ValidStates.{valid_is_ruled, region_is_valid}
use Rattle.mb_model_lemmas.proofs.DemandLemmas.{with_secrets}
use Rattle.mb_model_runs.proofs.KeptByRuns.{with_one_use, IsKept, run_kept}
use Rattle.mb_model_runs.proofs.KeyLemmas.{upper_of}
use Rattle.mb_model_histories.specs.Histories.{History}
use Rattle.mb_model_histories.specs.KeyLaws.{Collide, device_key_text, officer_key_text, DeviceKeysDiffer, OfficersKeysDiffer, KeysOfDevicesAreNoOfficers, OneNoiseMakesOneKey, IsDerived, HasDerivedKeys, KeysAreDerived, KeysOfOneDeviceDiffer}
use Rattle.mb_model_histories.proofs.HistoryLemmas.{histories_stay_valid}

-- ---- texts and hashes

-- two texts with one hash are one, or collide
pub same_or_collide : (one other : List ℕ) → sha256 one ≡ sha256 other → (one ≡ other) ⊎ Collide one other
same_or_collide one other hashed = by (same_bytes one other) refl
  where
    by : (b : Bool) → same_bytes one other ≡ b → (one ≡ other) ⊎ Collide one other
    by true is = inl (same_bytes-true one other is)
    by false is = inr (λ equal. true≢false (sym (ap (λ (x : List ℕ). same_bytes x other) equal ∙ same_bytes-refl other) ∙ is), hashed)

key_text_same : (draw other_draw serial other_serial : List ℕ) (n m : ℕ) → length serial ≡ length other_serial → n < 2 ^ 32 → m < 2 ^ 32
    → device_key_text draw serial n ≡ device_key_text other_draw other_serial m → (draw ≡ other_draw) × (serial ≡ other_serial) × (n ≡ m)
key_text_same draw other_draw serial other_serial n m long few few_other e =
    let inner = (cons_same KEY_SECRET KEY_SECRET (draw ++ serial ++ to_be_bytes w32 n) (other_draw ++ other_serial ++ to_be_bytes w32 m) e).1 in
    let whole : length draw + length serial + 4 ≡ length other_draw + length other_serial + 4 = sym (lengths draw serial n) ∙ ap length inner ∙ lengths other_draw other_serial m in
    let fronts = same_parts (draw ++ serial) (other_draw ++ other_serial) (to_be_bytes w32 n) (to_be_bytes w32 m) (simp length-append (omega (arith, long, whole))) inner in
    let parts = same_parts draw other_draw serial other_serial (omega (arith, long, whole)) fronts.0 in
    (parts.0, parts.1, word_same n m few few_other fronts.1)
  where
    lengths : (a b : List ℕ) (k : ℕ) → length (a ++ b ++ to_be_bytes w32 k) ≡ length a + length b + 4
    lengths a b k = length-append (a ++ b) (to_be_bytes w32 k) ∙ ap (λ l. l + 4) (length-append a b)

pub device_keys_differ : DeviceKeysDiffer
unfolding born_key
device_keys_differ draw other_draw serial other_serial n m long few few_other same =
    elim (same_or_collide (device_key_text draw serial n) (device_key_text other_draw other_serial m) (ap (λ (k : KeySeed). k.seed) same)) [
      | inl text ↦ inl (key_text_same draw other_draw serial other_serial n m long few few_other text)
      | inr collide ↦ inr collide
    ]

pub officers_keys_differ : OfficersKeysDiffer
unfolding officer_key
officers_keys_differ noise other same =
    elim (same_or_collide (officer_key_text noise) (officer_key_text other) (ap (λ (k : KeySeed). k.seed) same)) [
      | inl text ↦ inl (cons_same OFFICER_SECRET OFFICER_SECRET noise other text).1
      | inr collide ↦ inr collide
    ]

pub keys_of_devices_are_no_officers : KeysOfDevicesAreNoOfficers
unfolding born_key officer_key
keys_of_devices_are_no_officers draw serial noise n same =
    elim (same_or_collide (device_key_text draw serial n) (officer_key_text noise) (ap (λ (k : KeySeed). k.seed) same)) [
      | inl equal ↦ absurd (omega (arith, (cons_same KEY_SECRET OFFICER_SECRET (draw ++ serial ++ to_be_bytes w32 n) noise equal).0))
      | inr collide ↦ collide
    ]

pub one_noise_makes_one_key : OneNoiseMakesOneKey
unfolding state_at_birth
one_noise_makes_one_key maker other_maker index other_index owner other_owner code other_code noise = refl

-- ---- the keys of a device

abbrev AreDerived : List ℕ → List RegionKey → Type 0
AreDerived serial keys = All (IsDerived serial) keys

used_derived : (serial : List ℕ) (n : ℕ) (keys : List RegionKey) → AreDerived serial keys → AreDerived serial (with_use n keys)
unfolding with_use
used_derived serial n keys all =
    let once : RegionKey → RegionKey = λ key. if has_number n key then record key { uses = key.uses + 1 } else key in
    All-map (IsDerived serial) once keys (All-weaker (IsDerived serial) (λ key. IsDerived serial (once key)) (λ key is. either (has_number n key) key is) keys all)
  where
    either : (b : Bool) (key : RegionKey) → IsDerived serial key → IsDerived serial (if b then record key { uses = key.uses + 1 } else key)
    either true key is = is
    either false key is = is

-- the regions of a state, with that of one layer replaced
instead_derived : (serial : List ℕ) (at_two at_three : Bool) (two three new : Region) → AreDerived serial two.keys → AreDerived serial three.keys → AreDerived serial new.keys
    → AreDerived serial (if at_two then new else two).keys × AreDerived serial (if at_three then new else three).keys
instead_derived serial true true two three new a b c = (c, c)
instead_derived serial true false two three new a b c = (c, b)
instead_derived serial false true two three new a b c = (a, c)
instead_derived serial false false two three new a b c = (a, b)

region_derived : (serial : List ℕ) (at_two at_three : Bool) (two three : Region) → AreDerived serial two.keys → AreDerived serial three.keys
    → AreDerived serial (if at_two then two else if at_three then three else empty_region).keys
region_derived serial true c two three a b = a
region_derived serial false true two three a b = b
region_derived serial false false two three a b = All-nil (IsDerived serial)

-- what a change leaves of a region
after_derived : (serial : List ℕ) (above admitted : Bool) (region : Region) → AreDerived serial region.keys
    → AreDerived serial (if above then region else if admitted then record region { keys = filter (λ key. is_epoch key.kind) region.keys } else empty_region).keys
after_derived serial true admitted region all = all
after_derived serial false true region all = All-filter (λ key. is_epoch key.kind) (IsDerived serial) region.keys all
after_derived serial false false region all = All-nil (IsDerived serial)

change_derived : (state : State) (kind : ChangeKind) (order : Order) (draw : List ℕ) → HasDerivedKeys state → HasDerivedKeys (state_after_change state kind order draw)
unfolding state_after_change
change_derived state kind order draw has = record {
  two = after_derived state.serial (nat_lt 2 order.layer) (admits state.layers kind order.layer (cosigners_of order) 2) state.two has.two;
  three = after_derived state.serial (nat_lt 3 order.layer) (admits state.layers kind order.layer (cosigners_of order) 3) state.three has.three;
}

new_key_derived : (state : State) (layer : ℕ) (kind : KeyKind) (draw : List ℕ) → HasDerivedKeys state → HasDerivedKeys (state_after_new_key state layer kind draw)
unfolding state_after_new_key
new_key_derived state layer kind draw has =
    let key : RegionKey = key_made (view_of state) kind draw in
    let own : AreDerived state.serial (region_of state layer).keys = region_derived state.serial (layer == 2) (layer == 3) state.two state.three has.two has.three in
    let more : AreDerived state.serial ((region_of state layer).keys ++ key ∷ []) =
    All-append (IsDerived state.serial) (region_of state layer).keys (key ∷ []) own (All-cons (IsDerived state.serial) key [] (draw, refl) (All-nil (IsDerived state.serial))) in
    let both = instead_derived state.serial (layer == 2) (layer == 3) state.two state.three (with_key key (region_of state layer)) has.two has.three more in
    record { two = both.0; three = both.1 }

ready_derived : (b : Bool) (state : State) (draw : List ℕ) → HasDerivedKeys state → HasDerivedKeys (if b then state_after_succession state draw else state)
unfolding state_after_succession
ready_derived true state draw has = record { two = has.two; three = has.three }
ready_derived false state draw has = has

act_derived : (ready : State) (order : Order) (a : Act) (draw : List ℕ) → HasDerivedKeys ready → HasDerivedKeys (state_after_act ready order a draw)
act_derived ready order (act.Establish owner trust) draw has = change_derived ready Establish order draw has
act_derived ready order act.Surrender draw has = change_derived ready Surrender order draw has
act_derived ready order (act.Load payload) draw has = change_derived ready Load order draw has
act_derived ready order (act.Emergency payload) draw has = change_derived ready Emergency order draw has
act_derived ready order (act.NewKey kind) draw has = new_key_derived ready order.layer kind draw has

order_derived : (state : State) (order : Order) (draw : List ℕ) → HasDerivedKeys state → HasDerivedKeys (state_after_order state order draw)
unfolding state_after_order
order_derived state order draw has = act_derived (ready_for state order draw) order order.act draw (ready_derived (needs_succession (view_of state) order) state draw has)

-- a dead device has no keys
abbrev Derived : Option State → Type 0
Derived None = Unit {0}
Derived (Some state) = HasDerivedKeys state

-- each step keeps it
abbrev StaysDerived : Option State → Option State → Type 0
StaysDerived before after = Derived before → Derived after

secrets_derived : (state : State) (layer : ℕ) (secrets : List Secret) → HasDerivedKeys state → HasDerivedKeys (with_secrets state layer secrets)
secrets_derived state layer secrets has =
    let own : AreDerived state.serial (region_of state layer).keys = region_derived state.serial (layer == 2) (layer == 3) state.two state.three has.two has.three in
    let both = instead_derived state.serial (layer == 2) (layer == 3) state.two state.three (record (region_of state layer) { secrets = secrets }) has.two has.three own in
    record { two = both.0; three = both.1 }

use_derived : (state : State) (layer number : ℕ) → HasDerivedKeys state → HasDerivedKeys (with_one_use state layer number)
use_derived state layer number has =
    let own : AreDerived state.serial (region_of state layer).keys = region_derived state.serial (layer == 2) (layer == 3) state.two state.three has.two has.three in
    let once = used_derived state.serial number (region_of state layer).keys own in
    let both = instead_derived state.serial (layer == 2) (layer == 3) state.two state.three (record (region_of state layer) { keys = with_use number (region_of state layer).keys }) has.two has.three once in
    record { two = both.0; three = both.1 }

derived_kept : IsKept StaysDerived
derived_kept = record {
  same = λ o has. has;
  dies = λ o has. tt;
  secrets = secrets_derived;
  used = use_derived;
  called = λ state layer secrets number has. use_derived (with_secrets state layer secrets) layer number (secrets_derived state layer secrets has);
  order = order_derived;
}

stays_on : (a b c : Option State) → StaysDerived a b → StaysDerived b c → StaysDerived a c
stays_on a b c first second has = second (first has)

history_derived : (first last : Option State) (runs : List (List Answered)) → Derived first → History first runs last → Derived last
history_derived first last [] has history = subst Derived (sym history) has
history_derived first last (run ∷ runs) has history =
    history_derived history.0.state last runs (run_kept StaysDerived derived_kept stays_on (opening_world first) run history.0 history.1 has) history.2

at_birth : (maker : KeySeed) (index : ℕ) (owner : PublicKey) (code noise : List ℕ) → HasDerivedKeys (state_at_birth maker index owner code noise)
unfolding state_at_birth
at_birth maker index owner code noise = record { two = All-nil _; three = All-nil _ }

pub keys_are_derived : KeysAreDerived
keys_are_derived maker index owner code noise runs live history =
    history_derived (Some (state_at_birth maker index owner code noise)) (Some live) runs (at_birth maker index owner code noise) history

-- the keys of a state have small numbers
small_number : (state : State) (layer : ℕ) (key : RegionKey) → IsValidState state → length state.log ≤ 128 → Contains (region_of state layer).keys key → key.number < 2 ^ 32
small_number state layer key valid short within =
    let region = region_is_valid state layer (upper_of state layer key within) valid in
    let born = All-contains (λ (k : RegionKey). KeyAdmitted (entries_of state.log) layer k.number) (region_of state layer).keys key region.kept.keys within in
    let rules = (valid_is_ruled state valid born.before (NewKey born.position born.number key.number layer born.kind born.key) born.later born.split).1 in
    let front : length (entries_of state.log) ≡ length born.before + length (NewKey born.position born.number key.number layer born.kind born.key ∷ born.later) =
    ap length born.split ∙ length-append born.before _ in
    omega (arith, rules.key_counted, made-le-length born.before, front, length-entries_of state.log, short)

derived_in : (state : State) (layer : ℕ) (key : RegionKey) → HasDerivedKeys state → Contains (region_of state layer).keys key → IsDerived state.serial key
derived_in state layer key has within =
    All-contains (IsDerived state.serial) (region_of state layer).keys key (region_derived state.serial (layer == 2) (layer == 3) state.two state.three has.two has.three) within

pub keys_of_one_device_differ : KeysOfOneDeviceDiffer
keys_of_one_device_differ maker index owner code noise runs live layer other_layer key other history short within within_other same =
    let has : HasDerivedKeys live = keys_are_derived maker index owner code noise runs live history in
    let valid : IsValidState live = histories_stay_valid (Some (state_at_birth maker index owner code noise)) (Some live) runs (birth_is_valid maker index owner code noise) history in
    let first = derived_in live layer key has within in
    let second = derived_in live other_layer other has within_other in
    elim (device_keys_differ first.0 second.0 live.serial live.serial key.number other.number refl (small_number live layer key valid short within) (small_number live other_layer other valid short within_other) (sym first.1 ∙ same ∙ second.1)) [
      | inl all ↦ inl all.2
      | inr collide ↦ inr (record {
        draw = first.0;
        other_draw = second.0;
        derived = first.1;
        other_derived = second.1;
        collide = collide;
      })
    ]
