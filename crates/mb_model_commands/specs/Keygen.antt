-- What the command `keygen` does. Does an officer's key come from the noise alone, and is its hash the one that is
-- printed?
use Rattle.std.specs.Prelude.{ℕ, List, ◌++◌, codes}
use Rattle.sha2.specs.Sha256.{sha256}
use Rattle.hex.specs.Hex.{encode_lower}
use Rattle.mb_model.specs.declared.tools.Keyfile.{Keyfile}
use Rattle.mb_model.specs.signatures.Key.{key_bytes}
use Rattle.mb_model.specs.owners.Born.{officer_key}
use Rattle.mb_model.specs.signatures.Signing.{public_of}
use Rattle.mb_model.specs.records.KeyFormat.{keyfile_format}
use Rattle.mb_model.specs.outside.Texts.{line_with_lf}
use Rattle.mb_model_commands.specs.declared.role.Role.TheVariants as role
use Rattle.mb_model_commands.specs.Commands.{Command, read, write, print}
use Rattle.mb_model_commands.specs.Inputs.{key_noise_input}

-- the names of the files
pub record KeygenNames : Type 0 where
  pub noise : List ℕ
  pub key : List ℕ
  pub public : List ℕ

-- an officer's new key, derived from 32 bytes of noise; it has signed nothing
unfoldable pub new_key : List ℕ → Keyfile
new_key noise = record { seed = officer_key noise; next = 0 }

-- the line that reports the hash of a public key
abbrev pub owner_text : List ℕ → List ℕ
owner_text public = line_with_lf (codes "owner " ++ encode_lower (sha256 public))

-- the public key of a new key, in bytes
abbrev pub new_public_key : List ℕ → List ℕ
new_public_key noise = key_bytes (public_of (new_key noise).seed)

-- the noise is read; a new key is written, then its public key, and the public key's hash is printed
unfoldable pub keygen : KeygenNames → Command
keygen names =
    read (key_noise_input names.noise) (λ noise.
    write (record { role = role.Key; name = names.key; bytes = keyfile_format.spelling (new_key noise) })
    (write (record { role = role.Public; name = names.public; bytes = new_public_key noise })
    (print (owner_text (new_public_key noise)))))
