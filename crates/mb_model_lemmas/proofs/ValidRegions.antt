-- A region stays one that a device can have, over each entry of the log and each thing that a layer does.
use Rattle.std.proofs.Common.{◌≡◌, ◌≢◌, ◌<◌, ◌≤◌, ◌+◌, ℕ, List, [], ◌∷◌, ◌++◌, length, map, Bool, true, false, cond, refl, sym, ap, subst, ◌∙◌, arith, append-nil, length-append, Option, None, true≢false, eq-eqb, ne_eqb, eqb-true, get_or, zero, suc}
use Rattle.std.specs.Prelude.{◌||◌, ◌==◌, not, filter, All, AllPairs, nat_lt, nat_le, IsTrue, if◌then◌else◌}
use Rattle.std.specs.List.{list_any}
use Rattle.std.proofs.lemmas.List.{map-append, length-map}
use Rattle.std.proofs.lemmas.List.Sums.{length-filter, count_by-le-length}
use Rattle.std.proofs.lemmas.Bool.{and_parts}
use Rattle.std.proofs.lemmas.List.Elements.{All-nil, All-cons, All-filter, All-weaker, All-append, All-map, filter_agree}
use Rattle.std.proofs.lemmas.List.Kept.{AllPairs-cons, AllPairs-filter}
use Rattle.std.proofs.lemmas.List.Quantifiers.{all_pairs_push}
use Rattle.std.proofs.lemmas.List.Folds.{list_any_at}
use Rattle.mb_model.specs.declared.key.KeySeed.{KeySeed}
use Rattle.mb_model.specs.declared.key.PublicKey.{PublicKey}
use Rattle.mb_model.specs.declared.layer.Layer.{Layer}
use Rattle.mb_model.specs.declared.layer.Layers.{Layers}
use Rattle.mb_model.specs.declared.layer.Pair.{Pair}
use Rattle.mb_model.specs.declared.order.ChangeKind.{ChangeKind}
use Rattle.mb_model.specs.declared.order.KeyKind.{KeyKind}
use Rattle.mb_model.specs.declared.order.KeyKind.TheVariants as kinds
use Rattle.mb_model.specs.declared.entry.Entry.{Entry}
use Rattle.mb_model.specs.declared.entry.Entry.TheVariants.{Birth, Change, NewKey, Succession}
use Rattle.mb_model.specs.declared.region.Region.{Region}
use Rattle.mb_model.specs.declared.region.RegionKey.{RegionKey}
use Rattle.mb_model.specs.declared.region.Secret.{Secret}
use Rattle.mb_model.specs.owners.Layers.{layer_of, is_upper, is_in, Runnable}
use Rattle.mb_model.specs.owners.Rules.{Condition, CanPlace, admits, is_kept, kept_regions, after}
use Rattle.mb_model.specs.owners.Log.{is_change, number_of, layers_of, keys_made_by, RuledLog}
use Rattle.mb_model.specs.owners.Lives.{ends_keys, MadeKey, alive_keys}
use Rattle.mb_model.specs.owners.Regions.{empty_region, is_epoch, without_configuration_keys, region_after, with_key, AdmittedSince, KeyAdmitted, RegionKeptRightly}
use Rattle.mb_model.specs.machine.LayerEvents.{has_name, with_secret, has_number, with_use}
use Rattle.mb_model.specs.signatures.Signing.{public_of}
use Rattle.mb_model.specs.memories.Valid.{as_made, IsValidRegion}
use Rattle.mb_model_lemmas.specs.AliveLaws.{goes_on, made_by}
use Rattle.mb_model_lemmas.proofs.LogLemmas.{number_of-push}
use Rattle.mb_model_lemmas.proofs.RegionLemmas.{at_upper, unreliable_is_empty, kept_over_change, kept_over_new_key, kept_over_other, now_is_admitted}
use Rattle.mb_model_lemmas.proofs.RuleLemmas.{to_each}
use Rattle.mb_model_lemmas.proofs.AliveLemmas.{alive_keys-push}

-- ---- keys over an entry

pub filter-map : {X Y : Type 0} (p : Y → Bool) (f : X → Y) (xs : List X) → filter p (map f xs) ≡ map f (filter (λ x. p (f x)) xs)
filter-map p f [] = refl
filter-map p f (x ∷ xs) =
    ap (λ more. cond (p (f x)) (f x ∷ more) more) (filter-map p f xs)
    ∙ elim (p (f x)) as (λ b. cond b (f x ∷ map f (filter (λ y. p (f y)) xs)) (map f (filter (λ y. p (f y)) xs)) ≡ map f (cond b (x ∷ filter (λ y. p (f y)) xs) (filter (λ y. p (f y)) xs))) [ false ↦ refl | true ↦ refl ]

filter-all : {X : Type 0} (xs : List X) → filter (λ x. true) xs ≡ xs
filter-all [] = refl
filter-all (x ∷ xs) = ap (λ more. x ∷ more) (filter-all xs)

filter-none : {X : Type 0} (xs : List X) → filter (λ x. false) xs ≡ []
filter-none [] = refl
filter-none (x ∷ xs) = filter-none xs

-- what an entry leaves of the keys, in a region as in the list of the keys that are alive
keys_over : (log : List Entry) (entry : Entry) (L : ℕ) (keys : List RegionKey) → map as_made keys ≡ alive_keys log L
    → alive_keys (log ++ entry ∷ []) L ≡ map as_made (filter (λ key. goes_on L entry (as_made key)) keys) ++ made_by L entry
keys_over log entry L keys are =
    alive_keys-push log entry L
    ∙ ap (λ alive. filter (goes_on L entry) alive ++ made_by L entry) (sym are)
    ∙ ap (λ more. more ++ made_by L entry) (filter-map (goes_on L entry) as_made keys)

-- which keys a change ends: none of a layer beneath, the configuration keys of one that admits it, and else all
abbrev ended_by : Bool → Bool → KeyKind → Bool
ended_by beneath agrees kind = if beneath then false else if agrees then not (is_epoch kind) else true

pub kept_at : (layers : Layers) (kind : ChangeKind) (k : ℕ) (cosigned : Pair) (L : ℕ) → IsTrue (is_upper L)
    → is_in L (kept_regions layers kind k cosigned) ≡ is_kept layers kind k cosigned L
kept_at layers kind k cosigned L upper =
    at_upper (λ m. is_in m (kept_regions layers kind k cosigned) ≡ is_kept layers kind k cosigned m) L upper refl refl

not_above : (k L : ℕ) → nat_le k L ≡ not (nat_lt L k)
not_above k L = grind arith

ended_is : (layers : Layers) (version position number : ℕ) (kind : ChangeKind) (k : ℕ) (cosigned : Pair) (now : Layers) (next : Option PublicKey) (L : ℕ) → IsTrue (is_upper L) → (key_kind : KeyKind)
    → ends_keys key_kind L (Change version position number kind k cosigned now (kept_regions layers kind k cosigned) next) ≡ ended_by (nat_lt L k) (admits layers kind k cosigned L) key_kind
ended_is layers version position number kind k cosigned now next L upper kinds.Epoch = ap not (kept_at layers kind k cosigned L upper) ∙ by (nat_lt L k) (admits layers kind k cosigned L)
  where
    by : (beneath agrees : Bool) → not (beneath || agrees) ≡ ended_by beneath agrees kinds.Epoch
    by true agrees = refl
    by false true = refl
    by false false = refl
ended_is layers version position number kind k cosigned now next L upper kinds.Configuration = not_above k L ∙ by (nat_lt L k) (admits layers kind k cosigned L)
  where
    by : (beneath agrees : Bool) → not beneath ≡ ended_by beneath agrees kinds.Configuration
    by true agrees = refl
    by false true = refl
    by false false = refl

left_over : (beneath agrees : Bool) (region : Region)
    → filter (λ (key : RegionKey). not (ended_by beneath agrees key.kind)) region.keys ≡ (if beneath then region else if agrees then without_configuration_keys region else empty_region).keys
left_over true agrees region = filter-all region.keys
left_over false true region = filter_agree (λ (key : RegionKey). not (not (is_epoch key.kind))) (λ key. is_epoch key.kind) (λ key. not_not (is_epoch key.kind)) region.keys
  where
    not_not : (b : Bool) → not (not b) ≡ b
    not_not true = refl
    not_not false = refl
left_over false false region = filter-none region.keys

-- what holds of a region, of the region without its configuration keys, and of the empty one, holds after a change
either_way : (P : Region → Type 0) (beneath agrees : Bool) (region : Region) → P region → P (without_configuration_keys region) → P empty_region
    → P (if beneath then region else if agrees then without_configuration_keys region else empty_region)
either_way P true agrees region all some none = all
either_way P false true region all some none = some
either_way P false false region all some none = none

no_names : AllPairs (λ (a b : Secret). a.name ≢ b.name) []
no_names = λ i j d less within. absurd (omega (arith, within))

fewer : (p : RegionKey → Bool) (keys : List RegionKey) → length keys ≤ 8 → length (filter p keys) ≤ 8
fewer p keys few = omega (arith, few, length-filter p keys, count_by-le-length p keys)

-- a change of any layer, with what it leaves of the region
pub valid_over_change : (log : List Entry) (layers : Layers) (version position number : ℕ) (kind : ChangeKind) (k : ℕ) (cosigned : Pair) (new : Layer) (next : Option PublicKey) (L : ℕ) (region : Region)
    → IsTrue (is_upper L) → layers ≡ layers_of log → CanPlace kind (layer_of layers k) new → IsValidRegion log layers L region
    → IsValidRegion (log ++ Change version position number kind k cosigned (after layers kind k cosigned new) (kept_regions layers kind k cosigned) next ∷ []) (after layers kind k cosigned new) L (region_after layers kind k cosigned L region)
valid_over_change log layers version position number kind k cosigned new next L region upper are can valid =
    let now : Layers = after layers kind k cosigned new in
    let kept : Pair = kept_regions layers kind k cosigned in
    let entry : Entry = Change version position number kind k cosigned now kept next in
    let more : number_of (log ++ entry ∷ []) ≡ number_of log + 1 = number_of-push log entry in
    let Past : Secret → Type 0 = λ secret. secret.born ≤ number_of (log ++ entry ∷ []) in
    let past : All Past region.secrets = All-weaker (λ secret. secret.born ≤ number_of log) Past (λ secret old. omega (arith, old, more)) region.secrets valid.past in
    let beneath : Bool = nat_lt L k in
    let agrees : Bool = admits layers kind k cosigned L in
    let same : filter (λ (key : RegionKey). goes_on L entry (as_made key)) region.keys ≡ (region_after layers kind k cosigned L region).keys =
    filter_agree (λ (key : RegionKey). goes_on L entry (as_made key)) (λ key. not (ended_by beneath agrees key.kind)) (λ key. ap not (ended_is layers version position number kind k cosigned now next L upper key.kind)) region.keys
    ∙ left_over beneath agrees region
    in
    record {
      empty = unreliable_is_empty layers kind k cosigned new L region upper can valid.empty;
      names = either_way (λ (r : Region). AllPairs (λ a b. a.name ≢ b.name) r.secrets) beneath agrees region valid.names valid.names no_names;
      past = either_way (λ (r : Region). All Past r.secrets) beneath agrees region past past (All-nil Past);
      few = either_way (λ (r : Region). length r.keys ≤ 8) beneath agrees region valid.few (fewer (λ key. is_epoch key.kind) region.keys valid.few) (omega arith);
      keys = sym (keys_over log entry L region.keys valid.keys ∙ append-nil _ ∙ ap (map as_made) same);
      kept = subst (λ (ls : Layers). RegionKeptRightly (log ++ entry ∷ []) L (region_after ls kind k cosigned L region)) (sym are) (kept_over_change log version position number kind k cosigned now kept next L region valid.kept);
    }

-- ---- other entries

not_ended : (entry : Entry) (L : ℕ) → is_change entry ≡ false → (kind : KeyKind) → ends_keys kind L entry ≡ false
not_ended (Birth version serial key layers) L other kinds.Epoch = refl
not_ended (Birth version serial key layers) L other kinds.Configuration = refl
not_ended (Change version position number change layer cosigned layers kept next) L other kind = absurd (true≢false other)
not_ended (NewKey position number key_number layer key_kind key) L other kinds.Epoch = refl
not_ended (NewKey position number key_number layer key_kind key) L other kinds.Configuration = refl
not_ended (Succession position key) L other kinds.Epoch = refl
not_ended (Succession position key) L other kinds.Configuration = refl

-- an entry that is no change leaves the keys, and what it makes stands after them
keys_over_other : (log : List Entry) (entry : Entry) (L : ℕ) (keys : List RegionKey) → is_change entry ≡ false → map as_made keys ≡ alive_keys log L
    → alive_keys (log ++ entry ∷ []) L ≡ map as_made keys ++ made_by L entry
keys_over_other log entry L keys other are =
    keys_over log entry L keys are
    ∙ ap (λ ks. map as_made ks ++ made_by L entry)
    (filter_agree (λ (key : RegionKey). goes_on L entry (as_made key)) (λ key. true) (λ key. ap not (not_ended entry L other key.kind)) keys ∙ filter-all keys)

past_over_other : (log : List Entry) (entry : Entry) (secrets : List Secret) → is_change entry ≡ false → All (λ secret. secret.born ≤ number_of log) secrets
    → All (λ secret. secret.born ≤ number_of (log ++ entry ∷ [])) secrets
past_over_other log entry secrets other past =
    let same : number_of (log ++ entry ∷ []) ≡ number_of log + 0 = number_of-push log entry ∙ ap (λ b. number_of log + (if b then 1 else 0)) other in
    All-weaker (λ secret. secret.born ≤ number_of log) (λ secret. secret.born ≤ number_of (log ++ entry ∷ [])) (λ secret old. omega (arith, old, same)) secrets past

-- an entry that is no change, and makes no key of the layer
pub valid_over_other : (log : List Entry) (layers : Layers) (entry : Entry) (L : ℕ) (region : Region) → is_change entry ≡ false → made_by L entry ≡ []
    → IsValidRegion log layers L region → IsValidRegion (log ++ entry ∷ []) layers L region
valid_over_other log layers entry L region other none valid = record {
  empty = valid.empty;
  names = valid.names;
  past = past_over_other log entry region.secrets other valid.past;
  few = valid.few;
  keys = sym (keys_over_other log entry L region.keys other valid.keys ∙ ap (λ more. map as_made region.keys ++ more) none ∙ append-nil (map as_made region.keys));
  kept = kept_over_other log entry L region other valid.kept;
}

-- a new key of another layer
pub valid_over_other_key : (log : List Entry) (layers : Layers) (position number key_number other : ℕ) (kind : KeyKind) (key : PublicKey) (L : ℕ) (region : Region)
    → other ≢ L → IsValidRegion log layers L region
    → IsValidRegion (log ++ NewKey position number key_number other kind key ∷ []) layers L region
valid_over_other_key log layers position number key_number other kind key L region apart =
    let mine : MadeKey = record { number = key_number; kind = kind; key = key } in
    let no : (other == L) ≡ false = ne_eqb other L apart in
    valid_over_other log layers (NewKey position number key_number other kind key) L region refl (ap (λ b. if b then mine ∷ [] else []) no)

-- a succession
pub valid_over_succession : (log : List Entry) (layers : Layers) (position : ℕ) (key : PublicKey) (L : ℕ) (region : Region)
    → IsValidRegion log layers L region → IsValidRegion (log ++ Succession position key ∷ []) layers L region
valid_over_succession log layers position key L region = valid_over_other log layers (Succession position key) L region refl refl

-- a layer that runs is reliable
runs_reliably : (layers : Layers) (L : ℕ) → IsTrue (is_upper L) → Runnable layers L → (layer_of layers L).reliable ≡ true
runs_reliably layers L upper runs = to_each layers L (grind (arith, upper)) runs L (grind (arith, upper)) (omega arith)

-- where the layer runs, its region may hold something
may_hold : (layers : Layers) (L : ℕ) (region : Region) → IsTrue (is_upper L) → Runnable layers L → (layer_of layers L).reliable ≡ false → region ≡ empty_region
may_hold layers L region upper runs not_reliable = absurd (true≢false (sym (runs_reliably layers L upper runs) ∙ not_reliable))

-- a new key of the layer, with the key that the region gets
pub valid_over_new_key : (log : List Entry) (layers : Layers) (position L : ℕ) (kind : KeyKind) (seed : KeySeed) (region : Region)
    → RuledLog log → Condition layers None L → length region.keys < 8 → IsValidRegion log layers L region
    → IsValidRegion (log ++ NewKey position (number_of log) (keys_made_by log) L kind (public_of seed) ∷ []) layers L (with_key (record { number = keys_made_by log; kind = kind; seed = seed; uses = 0 }) region)
valid_over_new_key log layers position L kind seed region ruled allowed room valid =
    let key : RegionKey = record { number = keys_made_by log; kind = kind; seed = seed; uses = 0 } in
    let entry : Entry = NewKey position (number_of log) (keys_made_by log) L kind (public_of seed) in
    let own : made_by L entry ≡ as_made key ∷ [] = ap (λ b. if b then as_made key ∷ [] else []) (eq-eqb L L refl) in
    record {
      empty = may_hold layers L (with_key key region) (and_parts (is_upper L) _ allowed).0 (and_parts (is_upper L) _ allowed).1;
      names = valid.names;
      past = past_over_other log entry region.secrets refl valid.past;
      few = omega (arith, room, length-append region.keys (key ∷ []));
      keys = map-append as_made region.keys (key ∷ []) ∙ sym (keys_over_other log entry L region.keys refl valid.keys ∙ ap (λ more. map as_made region.keys ++ more) own);
      kept = kept_over_new_key log position (number_of log) L kind (public_of seed) key region ruled refl valid.kept;
    }

-- ---- what layers do

-- a secret with this name
abbrev called : List ℕ → Secret
called name = record { name = name; value = []; born = 0 }

named-same : (xs ys : List ℕ) → has_name ys (called xs) ≡ true → xs ≡ ys
named-same [] [] e = refl
named-same [] (y ∷ ys) e = absurd (true≢false (sym e))
named-same (x ∷ xs) [] e = absurd (true≢false (sym e))
named-same (x ∷ xs) (y ∷ ys) e = both (x == y) refl (named-same xs ys) e
  where
    both : (same : Bool) → (x == y) ≡ same → (has_name ys (called xs) ≡ true → xs ≡ ys) → (if same then has_name ys (called xs) else false) ≡ true → x ∷ xs ≡ y ∷ ys
    both false first rest e = absurd (true≢false (sym e))
    both true first rest e = ap (λ n. n ∷ xs) (eqb-true x y first) ∙ ap (λ ns. y ∷ ns) (rest e)

named-own : (xs : List ℕ) → has_name xs (called xs) ≡ true
named-own [] = refl
named-own (x ∷ xs) = ap (λ b. if b then has_name xs (called xs) else false) (eq-eqb x x refl) ∙ named-own xs

AllPairs-map : {X Y : Type 0} (R : X → X → Type 0) (S : Y → Y → Type 0) (f : X → Y) → ((a b : X) → R a b → S (f a) (f b)) → (xs : List X) → AllPairs R xs → AllPairs S (map f xs)
AllPairs-map R S f keeps [] pairs = λ i j d less within. absurd (omega (arith, within))
AllPairs-map R S f keeps (x ∷ xs) pairs =
    AllPairs-cons S (f x) (map f xs)
    (All-map (S (f x)) f xs (λ k d within. keeps _ _ (pairs zero (suc k) d (omega arith) (omega arith))))
    (AllPairs-map R S f keeps xs (λ i j d less within. pairs (suc i) (suc j) d (omega arith) (omega arith)))

-- the secret that a new one leaves in its place
abbrev kept_or : Secret → Secret → Secret
kept_or new old = if has_name new.name old then new else old

-- what holds of the new secret and of the old ones holds of all afterwards
with_secret-all : (P : Secret → Type 0) (new : Secret) (secrets : List Secret) → P new → All P secrets → All P (with_secret new secrets)
unfolding with_secret
with_secret-all P new secrets own old = by (list_any (has_name new.name) secrets)
  where
    one : (b : Bool) (secret : Secret) → P secret → P (if b then new else secret)
    one true secret holds = own
    one false secret holds = holds

    by : (b : Bool) → All P (if b then map (kept_or new) secrets else secrets ++ new ∷ [])
    by true = All-map P (kept_or new) secrets (All-weaker P (λ secret. P (kept_or new secret)) (λ secret holds. one (has_name new.name secret) secret holds) secrets old)
    by false = All-append P secrets (new ∷ []) old (All-cons P new [] own (All-nil P))

same_name : (new old : Secret) → (kept_or new old).name ≡ old.name
same_name new old = by (has_name new.name old) refl
  where
    by : (b : Bool) → has_name new.name old ≡ b → (if b then new else old).name ≡ old.name
    by true e = sym (named-same old.name new.name e)
    by false e = refl

-- names still differ
with_secret-names : (new : Secret) (secrets : List Secret) → AllPairs (λ a b. a.name ≢ b.name) secrets → AllPairs (λ a b. a.name ≢ b.name) (with_secret new secrets)
unfolding with_secret
with_secret-names new secrets differ = by (list_any (has_name new.name) secrets) refl
  where
    by : (b : Bool) → list_any (has_name new.name) secrets ≡ b → AllPairs (λ (a b : Secret). a.name ≢ b.name) (if b then map (kept_or new) secrets else secrets ++ new ∷ [])
    by true e =
        AllPairs-map (λ (a b : Secret). a.name ≢ b.name) (λ (a b : Secret). a.name ≢ b.name) (kept_or new) (λ a b apart same. apart (sym (same_name new a) ∙ same ∙ same_name new b)) secrets differ
    by false e =
        all_pairs_push (λ (a b : Secret). a.name ≢ b.name) secrets new differ
        (λ k d within same.
        let found : has_name new.name (get_or secrets k d) ≡ true = ap (λ ns. has_name new.name (called ns)) same ∙ named-own new.name in
        true≢false (sym (list_any_at (has_name new.name) secrets k d within found) ∙ e))

-- a secret that is put
pub valid_over_put : (log : List Entry) (layers : Layers) (L : ℕ) (name value : List ℕ) (region : Region)
    → RuledLog log → IsTrue (is_upper L) → Runnable layers L → IsValidRegion log layers L region
    → IsValidRegion log layers L (record region { secrets = with_secret (record { name = name; value = value; born = number_of log }) region.secrets })
valid_over_put log layers L name value region ruled upper runs valid =
    let new : Secret = record { name = name; value = value; born = number_of log } in
    record {
      empty = may_hold layers L (record region { secrets = with_secret new region.secrets }) upper runs;
      names = with_secret-names new region.secrets valid.names;
      past = with_secret-all (λ secret. secret.born ≤ number_of log) new region.secrets (omega arith) valid.past;
      few = valid.few;
      keys = valid.keys;
      kept = record {
        secrets = with_secret-all (λ secret. AdmittedSince log secret.born L) new region.secrets (now_is_admitted log L ruled) valid.kept.secrets;
        keys = valid.kept.keys;
      };
    }

-- a secret that is dropped
pub valid_over_drop : (log : List Entry) (layers : Layers) (L : ℕ) (name : List ℕ) (region : Region)
    → IsTrue (is_upper L) → Runnable layers L → IsValidRegion log layers L region
    → IsValidRegion log layers L (record region { secrets = filter (λ secret. not (has_name name secret)) region.secrets })
valid_over_drop log layers L name region upper runs valid =
    let others : Secret → Bool = λ secret. not (has_name name secret) in
    record {
      empty = may_hold layers L (record region { secrets = filter others region.secrets }) upper runs;
      names = AllPairs-filter (λ a b. a.name ≢ b.name) others region.secrets valid.names;
      past = All-filter others (λ secret. secret.born ≤ number_of log) region.secrets valid.past;
      few = valid.few;
      keys = valid.keys;
      kept = record {
        secrets = All-filter others (λ secret. AdmittedSince log secret.born L) region.secrets valid.kept.secrets;
        keys = valid.kept.keys;
      };
    }

-- the key as it stands afterwards, where the one with this number is used
abbrev pub used_if : ℕ → RegionKey → RegionKey
used_if number key = if has_number number key then record key { uses = key.uses + 1 } else key

used_as_made : (number : ℕ) (key : RegionKey) → as_made (used_if number key) ≡ as_made key
used_as_made number key = by (has_number number key)
  where
    by : (b : Bool) → as_made (if b then record key { uses = key.uses + 1 } else key) ≡ as_made key
    by true = refl
    by false = refl

-- a use changes nothing that the log tells of the keys
pub with_use-as_made : (number : ℕ) (keys : List RegionKey) → map as_made (with_use number keys) ≡ map as_made keys
unfolding with_use
with_use-as_made number [] = refl
with_use-as_made number (key ∷ keys) =
    ap (λ one. one ∷ map as_made (map (used_if number) keys)) (used_as_made number key)
    ∙ ap (λ more. as_made key ∷ more) (with_use-as_made number keys)

-- a key that is used
pub valid_over_use : (log : List Entry) (layers : Layers) (L number : ℕ) (region : Region)
    → IsTrue (is_upper L) → Runnable layers L → IsValidRegion log layers L region
    → IsValidRegion log layers L (record region { keys = with_use number region.keys })
unfolding with_use
valid_over_use log layers L number region upper runs valid =
    let P : RegionKey → Type 0 = λ key. KeyAdmitted log L key.number in
    let same_number : (key : RegionKey) → key.number ≡ (used_if number key).number = λ key. sym (ap (λ (m : MadeKey). m.number) (used_as_made number key)) in
    record {
      empty = may_hold layers L (record region { keys = with_use number region.keys }) upper runs;
      names = valid.names;
      past = valid.past;
      few = omega (arith, valid.few, length-map region.keys (used_if number));
      keys = with_use-as_made number region.keys ∙ valid.keys;
      kept = record {
        secrets = valid.kept.secrets;
        keys = All-map P (used_if number) region.keys (All-weaker P (λ key. P (used_if number key)) (λ key holds. subst (KeyAdmitted log L) (same_number key) holds) region.keys valid.kept.keys);
      };
    }
