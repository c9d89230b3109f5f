-- The image of a new device. Which keys, code and owner does a device begin with?
use Rattle.std.specs.Prelude.{ℕ, List, [], ◌∷◌, take, None, Some, true}
use Rattle.sha2.specs.Sha256.{sha256}
use Rattle.mb_model.specs.declared.key.KeySeed.{KeySeed}
use Rattle.mb_model.specs.declared.key.PublicKey.{PublicKey}
use Rattle.mb_model.specs.declared.key.Trust.TheVariants.{Always}
use Rattle.mb_model.specs.declared.layer.Layers.{Layers}
use Rattle.mb_model.specs.declared.entry.Entry.{Entry}
use Rattle.mb_model.specs.declared.entry.Entry.TheVariants.{Birth}
use Rattle.mb_model.specs.declared.state.Codes.{Codes}
use Rattle.mb_model.specs.declared.state.State.{State}
use Rattle.mb_model.specs.outside.Pieces.{part}
use Rattle.mb_model.specs.owners.Layers.{equal_trusts, layer_without_owner}
use Rattle.mb_model.specs.owners.Regions.{empty_region}
use Rattle.mb_model.specs.owners.Born.{born_key}
use Rattle.mb_model.specs.signatures.Signing.{public_of}
use Rattle.mb_model.specs.machine.OrderEffects.{entry_signed_by}
use Rattle.mb_model.specs.memories.WrittenImage.{IsWrittenFor}

-- the layers at birth: layer 1 has this owner, this code and both trusts always; nobody owns the layers above
abbrev pub layers_at_birth : PublicKey → List ℕ → Layers
layers_at_birth owner code = record {
  one = record {
    owner = Some owner;
    code = Some (record { hash = sha256 code; version = 1 });
    reliable = true;
    trust = equal_trusts Always;
  };
  two = layer_without_owner;
  three = layer_without_owner;
}

-- the device's serial: the 16 bytes of the noise after the first 32
abbrev pub serial_from : List ℕ → List ℕ
serial_from noise = part 32 16 noise

-- the device's first key, derived from the first 32 bytes of the noise and the serial
abbrev pub first_key : List ℕ → KeySeed
first_key noise = born_key (take 32 noise) (serial_from noise) 0

-- the first entry of the log, of version 2
abbrev pub birth_entry : PublicKey → List ℕ → List ℕ → Entry
birth_entry owner code noise =
    Birth 2 (serial_from noise) (public_of (first_key noise)) (layers_at_birth owner code)

-- the codes at birth: that of layer 1 alone
abbrev pub codes_at_birth : List ℕ → Codes
codes_at_birth code = record { one = Some code; two = None; three = None }

-- the state of a new device, whose birth the maker's key signs at this index
unfoldable pub state_at_birth : KeySeed → ℕ → PublicKey → List ℕ → List ℕ → State
state_at_birth maker index owner code noise = record {
  serial = serial_from noise;
  layers = layers_at_birth owner code;
  codes = codes_at_birth code;
  log = entry_signed_by maker index (birth_entry owner code noise) ∷ [];
  device = first_key noise;
  uses = 0;
  two = empty_region;
  three = empty_region;
}

-- the image of a new device
abbrev pub IsFactoryImage : KeySeed → ℕ → PublicKey → List ℕ → List ℕ → List ℕ → Type 0
IsFactoryImage maker index owner code noise image = IsWrittenFor (state_at_birth maker index owner code noise) image
