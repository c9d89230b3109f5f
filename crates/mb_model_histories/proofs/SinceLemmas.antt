-- Since something came into a region and was kept there, the owner of its layer has stayed.
use Rattle.std.proofs.Common.{◌≡◌, ◌<◌, ◌≤◌, ℕ, ◌+◌, List, [], ◌∷◌, ◌++◌, length, inl, inr, Option, Some, Bool, true, false, refl, sym, ap, ◌∙◌, subst, arith, append_assoc, append-nil}
use Rattle.std.specs.Prelude.{◌==◌, ◌&&◌, nat_lt, Contains, IsTrue, unwrap_or, if◌then◌else◌, ◌||◌}
use Rattle.std.proofs.lemmas.Bool.{cases_lt}
use Rattle.std.proofs.lemmas.List.Elements.{All-contains}
use Rattle.std.proofs.lemmas.List.Sums.{sum_by-append}
use Rattle.std.proofs.lemmas.List.{nil_from_length}
use Rattle.mb_model.specs.declared.entry.Entry.{Entry}
use Rattle.mb_model.specs.declared.entry.Entry.TheVariants.{Birth, Change, NewKey, Succession}
use Rattle.mb_model.specs.declared.key.PublicKey.{PublicKey}
use Rattle.mb_model.specs.declared.layer.Layer.{Layer}
use Rattle.mb_model.specs.declared.layer.Layers.{Layers}
use Rattle.mb_model.specs.declared.layer.Pair.{Pair}
use Rattle.mb_model.specs.declared.order.ChangeKind.{ChangeKind}
use Rattle.mb_model.specs.declared.order.ChangeKind.TheVariants.{Establish, Surrender, Load, Emergency}
use Rattle.mb_model.specs.declared.region.Region.{Region}
use Rattle.mb_model.specs.declared.region.RegionKey.{RegionKey}
use Rattle.mb_model.specs.declared.region.Secret.{Secret}
use Rattle.mb_model.specs.declared.state.State.{State}
use Rattle.mb_model.specs.owners.Layers.{layer_of, is_upper}
use Rattle.mb_model.specs.owners.Log.{figures_of, entries_of, keys_in, layers_in, last_of, number_of, layers_of, keys_made_by, AreFirst, ChangesRightly, Ruled, RuledLog}
use Rattle.mb_model.specs.owners.Regions.{empty_region, region_of, AdmittedSince, KeyAdmitted}
use Rattle.mb_model.specs.owners.Rules.{CanPlace, is_own_load, admits, Admits}
use Rattle.mb_model.specs.memories.Valid.{IsValidState}
use Rattle.mb_model_lemmas.proofs.LogLemmas.{layers_of-push, number_of-append}
use Rattle.mb_model_lemmas.proofs.RegionLemmas.{at_upper, layer_of-after}
use Rattle.mb_model_lemmas.proofs.ValidStates.{valid_is_ruled, region_is_valid}
use Rattle.mb_model_lemmas.proofs.ListLemmas.{contains_none, front_of}
use Rattle.mb_model_runs.proofs.KeyLemmas.{upper_of}

-- ---- one entry

-- who owns the layer after these entries
abbrev owner_by : List Entry → ℕ → Option PublicKey
owner_by log layer = (layer_of (layers_of log) layer).owner

owner_changed : (at beneath a : Bool) (old new : Layer) → (at ≡ true → new.owner ≡ old.owner)
    → (if at then new else if beneath then old else record old { reliable = old.reliable && a }).owner ≡ old.owner
owner_changed true beneath a old new own = own refl
owner_changed false true a old new own = refl
owner_changed false false a old new own = refl

-- a change that its own layer admits leaves the owner
own_load_owner : (kind : ChangeKind) (old new : Layer) → is_own_load (Some kind) ≡ true → CanPlace kind old new → new.owner ≡ old.owner
own_load_owner Establish old new own can = absurd (grind (arith, own))
own_load_owner Surrender old new own can = absurd (grind (arith, own))
own_load_owner Load old new own can = can.0
own_load_owner Emergency old new own can = absurd (grind (arith, own))

admits_own : (at own other : Bool) → at ≡ true → IsTrue (if at then own else other) → own ≡ true
admits_own true own other e is = is
admits_own false own other e is = absurd (grind (arith, e))

numbers_same : (m n : ℕ) → (m == n) ≡ true → m ≡ n
numbers_same m n e = grind (arith, e)

change_owner : (old new : Layers) (kind : ChangeKind) (k layer : ℕ) (cosigned kept : Pair) → IsTrue (is_upper layer) → ChangesRightly old kind k cosigned new kept
    → (k ≤ layer → Admits old kind k cosigned layer) → (layer_of new layer).owner ≡ (layer_of old layer).owner
change_owner old new kind k layer cosigned kept upper rightly admitted =
    let own : (layer == k) ≡ true → (layer_of new k).owner ≡ (layer_of old layer).owner =
    λ e. let same : layer ≡ k = numbers_same layer k e in
    let beneath : k ≤ layer = omega (arith, same) in
    let load : is_own_load (Some kind) ≡ true = admits_own (layer == k) (is_own_load (Some kind)) _ e (admitted beneath) in
    own_load_owner kind (layer_of old k) (layer_of new k) load rightly.placed ∙ ap (λ n. (layer_of old n).owner) (sym same) in
    ap (λ (layers : Layers). (layer_of layers layer).owner) rightly.changed
    ∙ ap (λ (l : Layer). l.owner) (layer_of-after old kind k cosigned (layer_of new k) layer upper)
    ∙ owner_changed (layer == k) (nat_lt layer k) (admits old kind k cosigned layer) (layer_of old layer) (layer_of new k) own

-- at the birth an upper layer has no owner, as before it
birth_owner : (before : List Entry) (layers : Layers) (layer : ℕ) → IsTrue (is_upper layer) → before ≡ [] → AreFirst layers → (layer_of layers layer).owner ≡ owner_by before layer
unfolding layers_of last_of
birth_owner before layers layer upper none first =
    subst (λ log. (layer_of layers layer).owner ≡ owner_by log layer) (sym none)
    (at_upper (λ m. (layer_of layers m).owner ≡ owner_by [] m) layer upper (ap (λ (l : Layer). l.owner) first.two) (ap (λ (l : Layer). l.owner) first.three))

-- one more entry leaves the owner, if the layer admits it where it is a change of the layer or beneath it
entry_owner : (before : List Entry) (entry : Entry) (layer : ℕ) → IsTrue (is_upper layer) → Ruled (figures_of before) entry
    → ((version position number : ℕ) (kind : ChangeKind) (k : ℕ) (cosigned : Pair) (layers : Layers) (kept : Pair) (next : Option PublicKey)
    → entry ≡ Change version position number kind k cosigned layers kept next → number ≡ number_of before + 1 → k ≤ layer → Admits (layers_of before) kind k cosigned layer)
    → (layer_of (unwrap_or (layers_in entry) (layers_of before)) layer).owner ≡ owner_by before layer
entry_owner before (Birth version serial key layers) layer upper ruled admitted = birth_owner before layers layer upper (nil_from_length before ruled.0) ruled.1
entry_owner before (Change version position number kind k cosigned layers kept next) layer upper ruled admitted =
    change_owner (layers_of before) layers kind k layer cosigned kept upper ruled.2 (admitted version position number kind k cosigned layers kept next refl ruled.1.counted)
entry_owner before (NewKey position number key_number m kind key) layer upper ruled admitted = refl
entry_owner before (Succession position key) layer upper ruled admitted = refl

-- ---- all entries since

more_numbers : (before : List Entry) (entry : Entry) → number_of before ≤ number_of (before ++ entry ∷ [])
more_numbers before entry = omega (arith, number_of-append before (entry ∷ []))

module _ (log : List Entry) (layer since : ℕ) (upper : IsTrue (is_upper layer)) (ruled : RuledLog log) (admitted : AdmittedSince log since layer) where
  pub owner_since : (rest before : List Entry) → log ≡ before ++ rest → since ≤ number_of before → owner_by before layer ≡ owner_by log layer
  owner_since [] before split late = ap (λ entries. owner_by entries layer) (sym (split ∙ append-nil before))
  owner_since (entry ∷ rest) before split late =
      let more : List Entry = before ++ entry ∷ [] in
      let now : owner_by more layer ≡ owner_by before layer =
      ap (λ (layers : Layers). (layer_of layers layer).owner) (layers_of-push before entry)
      ∙ entry_owner before entry layer upper (ruled before entry rest split)
      (λ version position number kind k cosigned layers kept next is counted beneath.
      admitted before rest version position number kind k cosigned layers kept next (split ∙ ap (λ e. before ++ e ∷ rest) is) (omega (arith, late, counted)) beneath) in
      let later : since ≤ number_of more = omega (arith, late, more_numbers before entry) in
      sym now ∙ owner_since rest more (split ∙ sym (append_assoc before (entry ∷ []) rest)) later

-- ---- secrets and keys

upper_by : (b c : Bool) (two three : Region) (secret : Secret) → Contains (if b then two else if c then three else empty_region).secrets secret → (b || c) ≡ true
upper_by true c two three secret within = refl
upper_by false true two three secret within = refl
upper_by false false two three secret within = absurd (contains_none secret within)

-- a layer whose region has a secret is 2 or 3
pub secret_upper : (state : State) (layer : ℕ) (secret : Secret) → Contains (region_of state layer).secrets secret → IsTrue (is_upper layer)
secret_upper state layer secret within = upper_by (layer == 2) (layer == 3) state.two state.three secret within

pub secret_admitted : (state : State) (layer : ℕ) (secret : Secret) → IsValidState state → Contains (region_of state layer).secrets secret → AdmittedSince (entries_of state.log) secret.born layer
secret_admitted state layer secret valid within =
    let region = region_is_valid state layer (secret_upper state layer secret within) valid in
    All-contains (λ (s : Secret). AdmittedSince (entries_of state.log) s.born layer) (region_of state layer).secrets secret region.kept.secrets within

owner_now : (state : State) (layer : ℕ) → IsValidState state → owner_by (entries_of state.log) layer ≡ (layer_of state.layers layer).owner
owner_now state layer valid = ap (λ (layers : Layers). (layer_of layers layer).owner) (sym valid.layers)

pub secrets_keep_their_owner : (state : State) (layer : ℕ) (before rest : List Entry) (secret : Secret) → IsValidState state → Contains (region_of state layer).secrets secret
    → entries_of state.log ≡ before ++ rest → secret.born ≤ number_of before → (layer_of (layers_of before) layer).owner ≡ (layer_of state.layers layer).owner
secrets_keep_their_owner state layer before rest secret valid within split late =
    owner_since (entries_of state.log) layer secret.born (secret_upper state layer secret within) (valid_is_ruled state valid) (secret_admitted state layer secret valid within) rest before split late
    ∙ owner_now state layer valid

keys_made-append : (log rest : List Entry) → keys_made_by (log ++ rest) ≡ keys_made_by log + keys_made_by rest
unfolding keys_made_by
keys_made-append log rest = sum_by-append keys_in log rest

pub keys_keep_their_owner : (state : State) (layer : ℕ) (before rest : List Entry) (key : RegionKey) → IsValidState state → Contains (region_of state layer).keys key
    → entries_of state.log ≡ before ++ rest → key.number < keys_made_by before → (layer_of (layers_of before) layer).owner ≡ (layer_of state.layers layer).owner
keys_keep_their_owner state layer before rest key valid within split made =
    let log : List Entry = entries_of state.log in
    let upper : IsTrue (is_upper layer) = upper_of state layer key within in
    let ruled : RuledLog log = valid_is_ruled state valid in
    let region = region_is_valid state layer upper valid in
    let born : KeyAdmitted log layer key.number = All-contains (λ (k : RegionKey). KeyAdmitted log layer k.number) (region_of state layer).keys key region.kept.keys within in
    let by = (ruled born.before (NewKey born.position born.number key.number layer born.kind born.key) born.later born.split).1 in
    let late : born.number ≤ number_of before = elim (cases_lt (length before) (length born.before)) [
      | inl sooner ↦
          let front = front_of before born.before rest (NewKey born.position born.number key.number layer born.kind born.key ∷ born.later) (sym split ∙ born.split) (omega (arith, sooner)) in
          let whole : keys_made_by born.before ≡ keys_made_by before + keys_made_by front.0 = ap keys_made_by front.1 ∙ keys_made-append before front.0 in
          absurd (omega (arith, made, whole, by.key_counted))
      | inr later ↦
          let front = front_of born.before before (NewKey born.position born.number key.number layer born.kind born.key ∷ born.later) rest (sym born.split ∙ split) later in
          let whole : number_of before ≡ number_of born.before + number_of front.0 = ap number_of front.1 ∙ number_of-append born.before front.0 in
          omega (arith, whole, by.counted)
    ] in
    owner_since log layer born.number upper ruled born.admitted rest before split late ∙ owner_now state layer valid
