-- How keys are made from noise. Does each key come from the noise it was given, and from nothing else?
use Rattle.std.specs.Prelude.{ℕ, List, ◌∷◌, ◌++◌, take}
use Rattle.std.specs.Int.{w32, to_be_bytes}
use Rattle.sha2.specs.Sha256.{sha256}
use Rattle.mb_model.specs.declared.separators.TheConstants.{KEY_IDENTIFIER, KEY_SECRET, OFFICER_IDENTIFIER}
use Rattle.mb_model.specs.declared.separators.TheConstants.{OFFICER_SECRET}
use Rattle.mb_model.specs.declared.key.KeySeed.{KeySeed}

-- a device's key with this number, derived from a draw of 32 bytes, the device's serial and the number
unfoldable pub born_key : List ℕ → List ℕ → ℕ → KeySeed
born_key draw serial key_number = record {
  identifier = take 16 (sha256 (KEY_IDENTIFIER ∷ draw ++ serial ++ to_be_bytes w32 key_number));
  seed = sha256 (KEY_SECRET ∷ draw ++ serial ++ to_be_bytes w32 key_number);
}

-- an officer's key, derived from 32 bytes of noise
unfoldable pub officer_key : List ℕ → KeySeed
officer_key noise = record {
  identifier = take 16 (sha256 (OFFICER_IDENTIFIER ∷ noise));
  seed = sha256 (OFFICER_SECRET ∷ noise);
}
