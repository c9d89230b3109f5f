-- When a region, and a state, is one that a device can have.
use Rattle.std.proofs.Common.{◌≡◌, ◌≤◌, ℕ, List, length, map, Bool, false, Some, sym, ap, subst, ◌∙◌, arith}
use Rattle.std.specs.Prelude.{◌↔◌, All, AllPairs, IsTrue}
use Rattle.std.proofs.lemmas.List.{length-map, get_or-map}
use Rattle.std.proofs.lemmas.List.Elements.{All-map, All-weaker}
use Rattle.mb_model.specs.declared.layer.Layers.{Layers}
use Rattle.mb_model.specs.declared.entry.Entry.{Entry}
use Rattle.mb_model.specs.declared.entry.SignedEntry.{SignedEntry}
use Rattle.mb_model.specs.declared.region.Region.{Region}
use Rattle.mb_model.specs.declared.region.Secret.{Secret}
use Rattle.mb_model.specs.declared.state.State.{State}
use Rattle.mb_model.specs.owners.Layers.{layer_of, is_upper}
use Rattle.mb_model.specs.owners.Log.{figures_of, entries_of, number_of, layers_of, device_of, serial_of, uses_of_device_key, RuledLog}
use Rattle.mb_model.specs.owners.Lives.{alive_keys}
use Rattle.mb_model.specs.owners.Regions.{empty_region, AdmittedSince}
use Rattle.mb_model.specs.signatures.Signing.{public_of}
use Rattle.mb_model.specs.memories.Valid.{as_made, EachFollows, AreNamed, IsValidRegion, IsValidState}
use Rattle.mb_image.specs.declared.alive.MadeKey.{MadeKey}
use Rattle.mb_image.specs.Keys.{listed_keys}
use Rattle.mb_image.specs.Losses.{loss}
use Rattle.mb_image.proofs.Admission.{admitted_after, lost_before, alive_keys_are_admitted}
use Rattle.mb_image.proofs.RegionSteps.{Differ}
use Rattle.mb_model.specs.declared.key.PublicKey.{PublicKey}
use Rattle.mb_model.specs.declared.state.Figures.{Figures}
use Rattle.mb_log.proofs.KeyLives.{figures_layers}

-- ---- secrets

All-unmapped : (P : Entry → Type 0) (log : List SignedEntry) → All P (entries_of log) → All (λ (s : SignedEntry). P s.entry) log
All-unmapped P log all = λ k d less.
    subst P (get_or-map (λ (s : SignedEntry). s.entry) log k d d.entry less) (all k d.entry (omega (arith, less, length-map log (λ (s : SignedEntry). s.entry))))

-- secrets were kept rightly exactly where they were put after the last loss
pub kept_where : (log : List SignedEntry) (L last : ℕ) (secrets : List Secret) → IsTrue (is_upper L) → RuledLog (entries_of log)
    → All (λ (s : SignedEntry). loss L s.entry ≤ last) log → ((c : ℕ) → All (λ (s : SignedEntry). loss L s.entry ≤ c) log → last ≤ c)
    → (All (λ (secret : Secret). last ≤ secret.born) secrets ↔ All (λ (secret : Secret). AdmittedSince (entries_of log) secret.born L) secrets)
kept_where log L last secrets upper ruled all least = (
  (λ after. All-weaker (λ (secret : Secret). last ≤ secret.born) (λ (secret : Secret). AdmittedSince (entries_of log) secret.born L)
      (λ secret late. admitted_after (entries_of log) secret.born L upper ruled
      (All-map (λ (e : Entry). loss L e ≤ secret.born) (λ (s : SignedEntry). s.entry) log
      (All-weaker (λ (s : SignedEntry). loss L s.entry ≤ last) (λ (s : SignedEntry). loss L s.entry ≤ secret.born) (λ s low. omega (arith, low, late)) log all)))
      secrets after),
  (λ kept. All-weaker (λ (secret : Secret). AdmittedSince (entries_of log) secret.born L) (λ (secret : Secret). last ≤ secret.born)
      (λ secret since. least secret.born (All-unmapped (λ (e : Entry). loss L e ≤ secret.born) log (lost_before (entries_of log) secret.born L upper ruled since)))
      secrets kept),
)

-- ---- a region

-- what is asked of the secrets
abbrev pub AreKept : List Entry → ℕ → ℕ → List Secret → Type 0
AreKept log number L secrets =
    AllPairs Differ secrets × All (λ (secret : Secret). secret.born ≤ number) secrets × All (λ (secret : Secret). AdmittedSince log secret.born L) secrets

-- of a region that can have its secrets, the keys decide
pub valid_where : (log : List Entry) (layers : Layers) (number L : ℕ) (region : Region) (alive : List MadeKey) (result : Bool)
    → IsTrue (is_upper L) → RuledLog log → number ≡ number_of log
    → ((layer_of layers L).reliable ≡ false → region ≡ empty_region) → length region.keys ≤ 8 → AreKept log number L region.secrets
    → listed_keys alive ≡ alive_keys log L → (IsTrue result ↔ (map as_made region.keys ≡ listed_keys alive)) → (IsTrue result ↔ IsValidRegion log layers L region)
valid_where log layers number L region alive result upper ruled number_is may few kept alive_is same = (
  (λ on.
      let keys : map as_made region.keys ≡ alive_keys log L = same.0 on ∙ alive_is in
      record {
        empty = may;
        names = kept.0;
        past = subst (λ n. All (λ (secret : Secret). secret.born ≤ n) region.secrets) number_is kept.1;
        few = few;
        keys = keys;
        kept = record { secrets = kept.2; keys = alive_keys_are_admitted log L region.keys upper ruled keys };
      }),
  (λ valid. same.1 (valid.keys ∙ sym alive_is)),
)

-- ---- a state

-- serial, device key and uses
abbrev pub IsDevice : State → Type 0
IsDevice state =
    (serial_of (entries_of state.log) ≡ Some state.serial) × (device_of (entries_of state.log) ≡ Some (public_of state.device)) × (state.uses ≡ uses_of_device_key (entries_of state.log))

-- of a state of which all else holds, region 3 decides
pub state_where : (state : State) (layers : Layers) (result : Bool) → state.layers ≡ layers_of (entries_of state.log) → layers ≡ layers_of (entries_of state.log)
    → EachFollows state.log → IsDevice state → AreNamed state.layers state.codes
    → IsValidRegion (entries_of state.log) layers 2 state.two → (IsTrue result ↔ IsValidRegion (entries_of state.log) layers 3 state.three)
    → (IsTrue result ↔ IsValidState state)
state_where state layers result own_layers layers_is each device named two three =
    let same : layers ≡ state.layers = layers_is ∙ sym own_layers in (
      (λ on. record {
        log = each;
        layers = own_layers;
        codes = named;
        serial = device.0;
        device = device.1;
        uses = device.2;
        two = subst (λ (ls : Layers). IsValidRegion (entries_of state.log) ls 2 state.two) same two;
        three = subst (λ (ls : Layers). IsValidRegion (entries_of state.log) ls 3 state.three) same (three.0 on);
      }),
      (λ valid. three.1 (subst (λ (ls : Layers). IsValidRegion (entries_of state.log) ls 3 state.three) (sym same) valid.three)),
    )

-- where region 2 is not valid, the state is not
pub no_two : (state : State) (layers : Layers) → state.layers ≡ layers_of (entries_of state.log) → layers ≡ layers_of (entries_of state.log)
    → (IsValidRegion (entries_of state.log) layers 2 state.two → ⊥) → IsValidState state → ⊥
no_two state layers own_layers layers_is fails valid =
    fails (subst (λ (ls : Layers). IsValidRegion (entries_of state.log) ls 2 state.two) (own_layers ∙ sym layers_is) valid.two)

-- what stands beside something that holds, by a condition that comes to the same
pub and_with : {A B C D : Type 0} (result : Bool) → A → (C ↔ D) → (IsTrue result ↔ (B × C)) → (IsTrue result ↔ (A × B × D))
and_with result a same flag =
    ((λ on. let both = flag.0 on in (a, both.0, same.0 both.1)), (λ all. flag.1 (all.1, same.1 all.2)))

-- ---- by the figures of the log

-- a log as it was read, with its figures
pub state_by : (state : State) (log : List SignedEntry) (device : PublicKey) (figures : Figures) (result : Bool) → log ≡ state.log → device ≡ public_of state.device
    → state.layers ≡ layers_of (entries_of state.log) → EachFollows log × (figures ≡ figures_of (entries_of log))
    → (serial_of (entries_of log) ≡ Some state.serial) × (device_of (entries_of log) ≡ Some device) × (state.uses ≡ uses_of_device_key (entries_of log))
    → AreNamed state.layers state.codes → IsValidRegion (entries_of log) figures.layers 2 state.two
    → (IsTrue result ↔ IsValidRegion (entries_of log) figures.layers 3 state.three) → (IsTrue result ↔ IsValidState state)
state_by state log device figures result log_is device_is layers_are reads own named two three =
    let each : EachFollows state.log = subst EachFollows log_is reads.0 in
    let figures_are : figures ≡ figures_of (entries_of state.log) = reads.1 ∙ ap (λ (l : List SignedEntry). figures_of (entries_of l)) log_is in
    let mine : IsDevice state = (
      ap (λ (l : List SignedEntry). serial_of (entries_of l)) (sym log_is) ∙ own.0,
      ap (λ (l : List SignedEntry). device_of (entries_of l)) (sym log_is) ∙ own.1 ∙ ap Some device_is,
      own.2 ∙ ap (λ (l : List SignedEntry). uses_of_device_key (entries_of l)) log_is,
    ) in
    state_where state figures.layers result layers_are (figures_layers figures (entries_of state.log) figures_are) each mine named
    (subst (λ (l : List SignedEntry). IsValidRegion (entries_of l) figures.layers 2 state.two) log_is two)
    (subst (λ (l : List SignedEntry). IsTrue result ↔ IsValidRegion (entries_of l) figures.layers 3 state.three) log_is three)

-- where region 2 is not valid by them
pub no_two_by : (state : State) (log : List SignedEntry) (figures : Figures) → log ≡ state.log → state.layers ≡ layers_of (entries_of state.log)
    → EachFollows log × (figures ≡ figures_of (entries_of log)) → (IsValidRegion (entries_of log) figures.layers 2 state.two → ⊥) → IsValidState state → ⊥
no_two_by state log figures log_is layers_are reads fails valid =
    let figures_are : figures ≡ figures_of (entries_of state.log) = reads.1 ∙ ap (λ (l : List SignedEntry). figures_of (entries_of l)) log_is in
    no_two state figures.layers layers_are (figures_layers figures (entries_of state.log) figures_are)
    (λ two. fails (subst (λ (l : List SignedEntry). IsValidRegion (entries_of l) figures.layers 2 state.two) (sym log_is) two)) valid
