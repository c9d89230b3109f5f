-- What the demands of a call do to the secrets of a region. Is a demand more than a `put` or a `drop`?
use Rattle.std.specs.Prelude.{◌≡◌, ◌≤◌, ℕ, Bool, true, false, not, List, [], ◌∷◌, length, map, filter}
use Rattle.std.specs.Prelude.{Option, Some, None, if◌then◌else◌}
use Rattle.mb_model.specs.declared.limits.TheConstants.{NAME_LIMIT, VALUE_LIMIT}
use Rattle.mb_model.specs.declared.region.Region.{Region}
use Rattle.mb_model.specs.declared.region.Secret.{Secret}
use Rattle.mb_model.specs.machine.Actions.{Demand, to_keep, to_drop}
use Rattle.mb_model.specs.machine.LayerEvents.{has_name, with_secret, is_full_for}
use Rattle.mb_device_regions.specs.declared.listed.Shown.{Shown}
use Rattle.mb_device_regions.specs.Secrets.{IsKeptRegion}

-- the secret that is shown
abbrev pub shown_secret : Shown → Secret
shown_secret shown = record { name = shown.name.now; value = shown.value.now; born = shown.born }

abbrev pub shown_secrets : List Shown → List Secret
shown_secrets listed = map shown_secret listed

-- a name and a value that fit the memory that is taken for them
pub record FitsSpare (secret : Secret) : Type 0 where
  pub name : length secret.name ≤ NAME_LIMIT
  pub value : length secret.value ≤ VALUE_LIMIT

-- a region with these secrets and no keys
abbrev pub region_of_secrets : List Secret → Region
region_of_secrets secrets = record { secrets = secrets; keys = [] }

-- secrets as a region keeps them: each can be stored, there are not too many, and their names differ
abbrev pub AreKept : List Secret → Type 0
AreKept secrets = IsKeptRegion (region_of_secrets secrets)

-- true if the secret was put, false if there was no room
abbrev pub KeepsIn : Secret → List Secret → Bool → List Secret → Type 0
KeepsIn secret before true after =
    (is_full_for secret.name (region_of_secrets before) ≡ false) × (after ≡ with_secret secret before)
KeepsIn secret before false after = is_full_for secret.name (region_of_secrets before) ≡ true

abbrev pub without_name : List ℕ → List Secret → List Secret
without_name name secrets = filter (λ secret. not (has_name name secret)) secrets

-- ---- demands

-- the secrets after a demand at this configuration number; none if it cannot be met
abbrev pub secrets_after : ℕ → Demand → List Secret → Option (List Secret)
secrets_after born (to_keep name value) secrets =
    if is_full_for name (region_of_secrets secrets) then None
    else Some (with_secret (record { name = name; value = value; born = born }) secrets)
secrets_after born (to_drop name) secrets = Some (without_name name secrets)

-- the secrets after what follows, if there are secrets so far
abbrev pub if_met : Option (List Secret) → (List Secret → Option (List Secret)) → Option (List Secret)
if_met None onwards = None
if_met (Some secrets) onwards = onwards secrets

-- the secrets after demands in their order
unfoldable pub secrets_after_all : ℕ → List Demand → List Secret → Option (List Secret)
secrets_after_all born [] secrets = Some secrets
secrets_after_all born (demand ∷ later) secrets =
    if_met (secrets_after born demand secrets) (λ next. secrets_after_all born later next)

-- the demand was met, and the secrets are kept as a region keeps them; or it cannot be met
abbrev pub MeetsDemand : ℕ → Demand → List Secret → Bool → List Secret → Type 0
MeetsDemand born demand before true after = (secrets_after born demand before ≡ Some after) × AreKept after
MeetsDemand born demand before false after = secrets_after born demand before ≡ None

-- the demands were met in their order; or one of them cannot be met
abbrev pub MeetsDemands : ℕ → List Demand → List Secret → Bool → List Secret → Type 0
MeetsDemands born demands before true after = (secrets_after_all born demands before ≡ Some after) × AreKept after
MeetsDemands born demands before false after = secrets_after_all born demands before ≡ None
