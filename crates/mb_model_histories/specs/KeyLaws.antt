-- Laws of keys and of the noise that they are derived from. Can two keys be one?
use Rattle.std.specs.Prelude.{◌≡◌, ◌≢◌, ◌≤◌, ◌<◌, ◌⊎◌, ℕ, List, ◌∷◌, ◌++◌, length, All, Contains, Some}
use Rattle.std.specs.Int.{w32, to_be_bytes}
use Rattle.sha2.specs.Sha256.{sha256}
use Rattle.mb_format.specs.Combinators.{limit}
use Rattle.mb_model.specs.declared.event.Answered.{Answered}
use Rattle.mb_model.specs.declared.key.KeySeed.{KeySeed}
use Rattle.mb_model.specs.declared.key.PublicKey.{PublicKey}
use Rattle.mb_model.specs.declared.limits.TheConstants.{ENTRY_LIMIT}
use Rattle.mb_model.specs.declared.region.RegionKey.{RegionKey}
use Rattle.mb_model.specs.declared.separators.TheConstants.{KEY_SECRET, OFFICER_SECRET}
use Rattle.mb_model.specs.declared.state.State.{State}
use Rattle.mb_model.specs.owners.Born.{born_key, officer_key}
use Rattle.mb_model.specs.memories.Factory.{state_at_birth}
use Rattle.mb_model.specs.owners.Regions.{region_of}
use Rattle.mb_model_histories.specs.Histories.{History}

-- ---- the texts that keys are derived from

-- These two texts differ and have one hash. That some two texts do follows from counting; of two texts that are given,
-- nobody has found it.
abbrev pub Collide : List ℕ → List ℕ → Type 0
Collide one other = (one ≢ other) × (sha256 one ≡ sha256 other)

-- the text whose hash is the seed of a device's key
abbrev pub device_key_text : List ℕ → List ℕ → ℕ → List ℕ
device_key_text draw serial key_number = KEY_SECRET ∷ draw ++ serial ++ to_be_bytes w32 key_number

-- the text whose hash is the seed of an officer's key
abbrev pub officer_key_text : List ℕ → List ℕ
officer_key_text noise = OFFICER_SECRET ∷ noise

-- Two keys of devices that are one were derived from one draw, one serial and one number, or else from two texts that
-- have one hash.
abbrev pub DeviceKeysDiffer : Type 0
DeviceKeysDiffer =
    (draw other_draw serial other_serial : List ℕ) (key_number other_number : ℕ) → length serial ≡ length other_serial
    → key_number < limit w32 → other_number < limit w32
    → born_key draw serial key_number ≡ born_key other_draw other_serial other_number
    → ((draw ≡ other_draw) × (serial ≡ other_serial) × (key_number ≡ other_number))
    ⊎ Collide (device_key_text draw serial key_number) (device_key_text other_draw other_serial other_number)

-- Two keys of officers that are one were derived from one noise, or else from two texts that have one hash.
abbrev pub OfficersKeysDiffer : Type 0
OfficersKeysDiffer =
    (noise other : List ℕ) → officer_key noise ≡ officer_key other
    → (noise ≡ other) ⊎ Collide (officer_key_text noise) (officer_key_text other)

-- Where a key of a device is an officer's, the texts that the two were derived from have one hash.
abbrev pub KeysOfDevicesAreNoOfficers : Type 0
KeysOfDevicesAreNoOfficers =
    (draw serial noise : List ℕ) (key_number : ℕ) → born_key draw serial key_number ≡ officer_key noise
    → Collide (device_key_text draw serial key_number) (officer_key_text noise)

-- What they were derived from cannot be left out: two devices that are made of one noise have one key.
abbrev pub OneNoiseMakesOneKey : Type 0
OneNoiseMakesOneKey =
    (maker other_maker : KeySeed) (index other_index : ℕ) (owner other_owner : PublicKey) (code other_code : List ℕ)
    → (noise : List ℕ) → let one : State = state_at_birth maker index owner code noise in
    let other : State = state_at_birth other_maker other_index other_owner other_code noise in
    other.device ≡ one.device

-- ---- the keys of a device

-- the key was derived from a draw, this serial and its number
abbrev pub IsDerived : List ℕ → RegionKey → Type 0
IsDerived serial key = (draw : List ℕ) × (key.seed ≡ born_key draw serial key.number)

-- each key in a region of the state was derived from a draw, the state's serial and its own number
pub record HasDerivedKeys (state : State) : Type 0 where
  pub two : All (IsDerived state.serial) state.two.keys
  pub three : All (IsDerived state.serial) state.three.keys

-- Each key in a region of a device was derived from a draw, the device's serial and its own number, whatever the
-- history from the birth on.
abbrev pub KeysAreDerived : Type 0
KeysAreDerived =
    (maker : KeySeed) (index : ℕ) (owner : PublicKey) (code noise : List ℕ) (runs : List (List Answered)) (live : State)
    → History (Some (state_at_birth maker index owner code noise)) runs (Some live) → HasDerivedKeys live

-- These keys of a device were derived from two draws, and the two texts that were hashed for it have one hash.
pub record DeriveByCollision (serial : List ℕ) (key other : RegionKey) : Type 0 where
  pub draw : List ℕ
  pub other_draw : List ℕ
  pub derived : key.seed ≡ born_key draw serial key.number
  pub other_derived : other.seed ≡ born_key other_draw serial other.number
  pub collide :
      Collide (device_key_text draw serial key.number) (device_key_text other_draw serial other.number)

-- Two keys in regions of a device that have one seed have one number, or else were derived from two texts that have one
-- hash.
abbrev pub KeysOfOneDeviceDiffer : Type 0
KeysOfOneDeviceDiffer =
    (maker : KeySeed) (index : ℕ) (owner : PublicKey) (code noise : List ℕ) (runs : List (List Answered)) (live : State)
    → (layer other_layer : ℕ) (key other : RegionKey)
    → History (Some (state_at_birth maker index owner code noise)) runs (Some live) → length live.log ≤ ENTRY_LIMIT
    → Contains (region_of live layer).keys key → Contains (region_of live other_layer).keys other
    → key.seed ≡ other.seed → (key.number ≡ other.number) ⊎ DeriveByCollision live.serial key other
