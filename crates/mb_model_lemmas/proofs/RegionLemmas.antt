-- What a change leaves in a region: nothing, where its layer is not reliable; and only what was kept rightly.
use Rattle.std.proofs.Common.{◌≡◌, ◌≤◌, ℕ, List, [], ◌∷◌, ◌++◌, inl, inr, append_assoc, Option, Some, Bool, true, false, refl, sym, ap, subst, ◌∙◌, arith}
use Rattle.std.specs.Prelude.{◌==◌, ◌&&◌, nat_lt, IsTrue, if◌then◌else◌}
use Rattle.std.proofs.lemmas.List.Elements.{All-nil, All-cons, All-append, All-filter}
use Rattle.mb_model.specs.declared.key.PublicKey.{PublicKey}
use Rattle.mb_model.specs.declared.order.KeyKind.{KeyKind}
use Rattle.mb_model.specs.declared.entry.Entry.{Entry}
use Rattle.mb_model.specs.declared.entry.Entry.TheVariants.{Change, NewKey}
use Rattle.mb_model.specs.declared.region.Secret.{Secret}
use Rattle.mb_model.specs.declared.region.RegionKey.{RegionKey}
use Rattle.mb_model.specs.owners.Log.{is_change, number_of, layers_of, RuledLog}
use Rattle.mb_model_lemmas.proofs.LogLemmas.{split_push, number-le}
use Rattle.mb_model.specs.declared.layer.Layer.{Layer}
use Rattle.mb_model.specs.declared.layer.Layers.{Layers}
use Rattle.mb_model.specs.declared.layer.Pair.{Pair}
use Rattle.mb_model.specs.declared.order.ChangeKind.{ChangeKind}
use Rattle.mb_model.specs.declared.order.ChangeKind.TheVariants.{Establish, Surrender, Load, Emergency}
use Rattle.mb_model.specs.declared.region.Region.{Region}
use Rattle.mb_model.specs.owners.Layers.{layer_of, is_upper}
use Rattle.mb_model.specs.owners.Rules.{CanPlace, is_own_load, admits, Admits, layer_after, after}
use Rattle.mb_model.specs.owners.Regions.{empty_region, is_epoch, without_configuration_keys, region_after, with_key, AdmittedSince, KeyAdmitted, RegionKeptRightly}

-- what holds of 2 and 3 holds of the number of each layer that has a region
pub at_upper : (P : ℕ → Type 0) (L : ℕ) → IsTrue (is_upper L) → P 2 → P 3 → P L
at_upper P L upper two three =
    (elim (L == 2) as (λ b. (L == 2) ≡ b → P L) [
      | true ↦ λ e. let is : 2 ≡ L = grind (arith, e) in subst P is two
      | false ↦ λ e. let is : 3 ≡ L = grind (arith, e, upper) in subst P is three
    ]) refl

-- layer L after a change, where L is 2 or 3
pub layer_of-after : (layers : Layers) (kind : ChangeKind) (k : ℕ) (cosigned : Pair) (new : Layer) (L : ℕ)
    → IsTrue (is_upper L) → layer_of (after layers kind k cosigned new) L ≡ layer_after layers kind k cosigned new L
unfolding after
layer_of-after layers kind k cosigned new L upper =
    at_upper (λ m. layer_of (after layers kind k cosigned new) m ≡ layer_after layers kind k cosigned new m) L upper refl refl

-- a change that leaves its own layer unreliable is no ordinary load
unreliable_is_no_load : (kind : ChangeKind) (old new : Layer) → CanPlace kind old new → new.reliable ≡ false → is_own_load (Some kind) ≡ false
unreliable_is_no_load Establish old new can not_reliable = refl
unreliable_is_no_load Surrender old new can not_reliable = refl
unreliable_is_no_load Load old new can not_reliable = grind (arith, can, not_reliable)
unreliable_is_no_load Emergency old new can not_reliable = refl

by_cases : (at beneath a : Bool) (old new : Layer) (region : Region)
    → (at ≡ true → beneath ≡ false) → (at ≡ true → new.reliable ≡ false → a ≡ false) → (old.reliable ≡ false → region ≡ empty_region)
    → (if at then new else if beneath then old else record old { reliable = old.reliable && a }).reliable ≡ false
    → (if beneath then region else if a then without_configuration_keys region else empty_region) ≡ empty_region
by_cases true true a old new region apart own was e = absurd (grind (arith, apart refl))
by_cases true false true old new region apart own was e = absurd (grind (arith, own refl e))
by_cases true false false old new region apart own was e = refl
by_cases false true a old new region apart own was e = was e
by_cases false false false old new region apart own was e = refl
by_cases false false true old new region apart own was e = ap without_configuration_keys (was (grind (arith, e)))

pub unreliable_is_empty : (layers : Layers) (kind : ChangeKind) (k : ℕ) (cosigned : Pair) (new : Layer) (L : ℕ) (region : Region)
    → IsTrue (is_upper L) → CanPlace kind (layer_of layers k) new → ((layer_of layers L).reliable ≡ false → region ≡ empty_region)
    → (layer_of (after layers kind k cosigned new) L).reliable ≡ false → region_after layers kind k cosigned L region ≡ empty_region
unreliable_is_empty layers kind k cosigned new L region upper can was e =
    by_cases (L == k) (nat_lt L k) (admits layers kind k cosigned L) (layer_of layers L) new region
    (λ same. grind (arith, same))
    (λ same not_reliable. let no = unreliable_is_no_load kind (layer_of layers k) new can not_reliable in grind (arith, same, no))
    was
    (ap (λ (l : Layer). l.reliable) (sym (layer_of-after layers kind k cosigned new L upper)) ∙ e)

-- one more entry, which the layer admits where it is a change at the layer or beneath it
abbrev pub AdmitsEntry : List Entry → Entry → ℕ → Type 0
AdmitsEntry log entry L =
    (version position number : ℕ) (kind : ChangeKind) (k : ℕ) (cosigned : Pair) (layers : Layers) (kept : Pair) (next : Option PublicKey)
    → entry ≡ Change version position number kind k cosigned layers kept next → k ≤ L → Admits (layers_of log) kind k cosigned L

pub AdmittedSince-push : (log : List Entry) (entry : Entry) (c L : ℕ) → AdmittedSince log c L → AdmitsEntry log entry L → AdmittedSince (log ++ entry ∷ []) c L
AdmittedSince-push log entry c L since admits_it =
    λ before later version position number kind k cosigned layers kept next split above beneath.
    let change : Entry = Change version position number kind k cosigned layers kept next in
    elim (split_push log before later entry change split) [
      | inl end ↦ subst (λ (b : List Entry). Admits (layers_of b) kind k cosigned L) end.1 (admits_it version position number kind k cosigned layers kept next end.2 beneath)
      | inr found ↦ since before found.0 version position number kind k cosigned layers kept next found.2 above beneath
    ]

-- what comes into a region now is kept rightly
pub now_is_admitted : (log : List Entry) (L : ℕ) → RuledLog log → AdmittedSince log (number_of log) L
now_is_admitted log L ruled =
    λ before later version position number kind k cosigned layers kept next split above beneath.
    absurd (omega (arith, above, number-le log before version position number kind k cosigned layers kept next later ruled split))

KeyAdmitted-push : (log : List Entry) (entry : Entry) (L n : ℕ) → AdmitsEntry log entry L → KeyAdmitted log L n → KeyAdmitted (log ++ entry ∷ []) L n
KeyAdmitted-push log entry L n admits_it was = record {
  before = was.before;
  position = was.position;
  number = was.number;
  kind = was.kind;
  key = was.key;
  later = was.later ++ entry ∷ [];
  split = ap (λ es. es ++ entry ∷ []) was.split ∙ append_assoc was.before (NewKey was.position was.number n L was.kind was.key ∷ was.later) (entry ∷ []);
  admitted = AdmittedSince-push log entry was.number L was.admitted admits_it;
}

-- a region stays as it is over an entry that its layer admits
pub kept_over : (log : List Entry) (entry : Entry) (L : ℕ) (region : Region) → AdmitsEntry log entry L → RegionKeptRightly log L region → RegionKeptRightly (log ++ entry ∷ []) L region
kept_over log entry L region admits_it was = record {
  secrets = λ i d within. AdmittedSince-push log entry _ L (was.secrets i d within) admits_it;
  keys = λ i d within. KeyAdmitted-push log entry L _ admits_it (was.keys i d within);
}

less_is_kept : (log : List Entry) (L : ℕ) (region : Region) → RegionKeptRightly log L region → RegionKeptRightly log L (without_configuration_keys region)
less_is_kept log L region was = record {
  secrets = was.secrets;
  keys = All-filter (λ key. is_epoch key.kind) (λ (key : RegionKey). KeyAdmitted log L key.number) region.keys was.keys;
}

nothing_is_kept : (log : List Entry) (L : ℕ) → RegionKeptRightly log L empty_region
nothing_is_kept log L = record {
  secrets = All-nil (λ (secret : Secret). AdmittedSince log secret.born L);
  keys = All-nil (λ (key : RegionKey). KeyAdmitted log L key.number);
}

-- what a change leaves of a region was kept rightly
kept_by : (beneath a : Bool) (log : List Entry) (entry : Entry) (L : ℕ) (region : Region)
    → (beneath ≡ true → AdmitsEntry log entry L) → (a ≡ true → AdmitsEntry log entry L) → RegionKeptRightly log L region
    → RegionKeptRightly (log ++ entry ∷ []) L (if beneath then region else if a then without_configuration_keys region else empty_region)
kept_by true a log entry L region above agreed was = kept_over log entry L region (above refl) was
kept_by false true log entry L region above agreed was = less_is_kept (log ++ entry ∷ []) L region (kept_over log entry L region (agreed refl) was)
kept_by false false log entry L region above agreed was = nothing_is_kept (log ++ entry ∷ []) L

pub kept_over_change : (log : List Entry) (version position number : ℕ) (kind : ChangeKind) (k : ℕ) (cosigned : Pair) (layers : Layers) (kept : Pair) (next : Option PublicKey) (L : ℕ) (region : Region)
    → RegionKeptRightly log L region
    → RegionKeptRightly (log ++ Change version position number kind k cosigned layers kept next ∷ []) L (region_after (layers_of log) kind k cosigned L region)
kept_over_change log version position number kind k cosigned layers kept next L region was =
    kept_by (nat_lt L k) (admits (layers_of log) kind k cosigned L) log (Change version position number kind k cosigned layers kept next) L region
    (λ less. λ version' position' number' kind' k' cosigned' layers' kept' next' e beneath. let same : k ≡ k' = cc in absurd (grind (arith, less, same, beneath)))
    (λ agreed. λ version' position' number' kind' k' cosigned' layers' kept' next' e beneath. let same : k ≡ k' = cc in let same_kind : kind ≡ kind' = cc in let same_pair : cosigned ≡ cosigned' = cc in
    subst (λ (x : ChangeKind). Admits (layers_of log) x k' cosigned' L) same_kind (subst (λ (x : ℕ). Admits (layers_of log) kind x cosigned' L) same (subst (λ (x : Pair). Admits (layers_of log) kind k x L) same_pair agreed)))
    was

-- a new key comes into its region rightly
pub kept_over_new_key : (log : List Entry) (position number : ℕ) (L : ℕ) (kind : KeyKind) (public : PublicKey) (key : RegionKey) (region : Region)
    → RuledLog log → number ≡ number_of log → RegionKeptRightly log L region
    → RegionKeptRightly (log ++ NewKey position number key.number L kind public ∷ []) L (with_key key region)
kept_over_new_key log position number L kind public key region ruled is was =
    let entry : Entry = NewKey position number key.number L kind public in
    let no_change : AdmitsEntry log entry L = λ version' position' number' kind' k' cosigned' layers' kept' next' e beneath. absurd (grind (arith, e)) in
    let over = kept_over log entry L region no_change was in
    let own : KeyAdmitted (log ++ entry ∷ []) L key.number = record {
      before = log;
      position = position;
      number = number;
      kind = kind;
      key = public;
      later = [];
      split = refl;
      admitted = AdmittedSince-push log entry number L (subst (λ c. AdmittedSince log c L) (sym is) (now_is_admitted log L ruled)) no_change;
    } in
    let P : RegionKey → Type 0 = λ k. KeyAdmitted (log ++ entry ∷ []) L k.number in
    record {
      secrets = over.secrets;
      keys = All-append P region.keys (key ∷ []) over.keys (All-cons P key [] own (All-nil P));
    }

-- an entry that is no change leaves what stands
pub kept_over_other : (log : List Entry) (entry : Entry) (L : ℕ) (region : Region) → is_change entry ≡ false → RegionKeptRightly log L region → RegionKeptRightly (log ++ entry ∷ []) L region
kept_over_other log entry L region other was =
    kept_over log entry L region (λ version position number kind k cosigned layers kept next e beneath. absurd (grind (arith, other, ap is_change e))) was
