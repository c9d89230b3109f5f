-- How secrets are put into a region and dropped from it. Is a secret of another name ever lost?
use Rattle.std.specs.Prelude.{◌≡◌, ◌≢◌, ℕ, Bool, true, false, List, AllPairs}
use Rattle.std.specs.Prelude.{Result, Ok, Err, Option, Some, None}
use Rattle.std.specs.List.{list_any}
use Rattle.mb_model.specs.declared.region.Region.{Region}
use Rattle.mb_model.specs.declared.region.Secret.{Secret}
use Rattle.mb_model.specs.records.RegionFormat.{secret_format}
use Rattle.mb_model.specs.machine.LayerEvents.{has_name, with_secret, is_full_for}
use Rattle.mb_model_memory.specs.Storable.{IsStorableRegion}
use Rattle.mb_model_lemmas.specs.RegionLaws.{without_secret}
use Rattle.mb_device_regions.specs.declared.end.NotPut.{NotPut}
use Rattle.mb_device_regions.specs.declared.end.NotPut.TheVariants.{Full, NoMemory}

-- a region as a device keeps it: it can be stored, and its secrets have names of their own
pub record IsKeptRegion (region : Region) : Type 0 where
  pub storable : IsStorableRegion region
  pub names : AllPairs (λ a b. a.name ≢ b.name) region.secrets

-- the region with the secret in place of the one that has its name, or after the others
abbrev pub region_with_secret : Secret → Region → Region
region_with_secret secret region = record region { secrets = with_secret secret region.secrets }

-- there was room for the secret, and it was put
pub record IsPut (old : Region) (secret : Secret) (new : Region) : Type 0 where
  pub room : is_full_for secret.name old ≡ false
  pub is : new ≡ region_with_secret secret old

-- the result of putting a secret
abbrev pub PutOf : Region → Secret → Result (Unit {0}) NotPut → Region → Type 0
PutOf old secret (Ok u) new = IsPut old secret new
PutOf old secret (Err Full) new = is_full_for secret.name old ≡ true
PutOf old secret (Err NoMemory) new = Unit {0}

-- there was such a secret, and it was removed
pub record IsDropped (old : Region) (name : List ℕ) (new : Region) : Type 0 where
  pub there : list_any (has_name name) old.secrets ≡ true
  pub is : new ≡ without_secret name old

-- the result of dropping a secret
abbrev pub DropOf : Region → List ℕ → Bool → Region → Type 0
DropOf old name true new = IsDropped old name new
DropOf old name false new = list_any (has_name name) old.secrets ≡ false

-- ---- in the stored region

abbrev pub secret_of : List ℕ → List ℕ → ℕ → Secret
secret_of name value number = record { name = name; value = value; born = number }

-- this is the secret, and it has a spelling
pub record IsSecretOf (name value : List ℕ) (number : ℕ) (secret : Secret) : Type 0 where
  pub is : secret ≡ secret_of name value number
  pub allowed : secret_format.Allowed secret

-- the result of putting a secret into a copy of the region
abbrev pub PutsInto : Region → Secret → Result Region NotPut → Type 0
PutsInto old secret (Ok new) = IsPut old secret new
PutsInto old secret (Err Full) = is_full_for secret.name old ≡ true
PutsInto old secret (Err NoMemory) = Unit {0}

-- the result of dropping a secret from a copy of the region
abbrev pub DropsFrom : {E : Type 0} → Region → List ℕ → Result (Option Region) E → Type 0
DropsFrom old name (Ok (Some new)) = IsDropped old name new
DropsFrom old name (Ok None) = list_any (has_name name) old.secrets ≡ false
DropsFrom old name (Err e) = Unit {0}
