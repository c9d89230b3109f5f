-- What the command `factory` does. Does a device begin with the owner, the code and the keys that were given, and is
-- the maker's index used up before the image is there?
use Rattle.std.specs.Prelude.{◌≡◌, List, ℕ, ◌++◌, codes}
use Rattle.hex.specs.Hex.{encode_lower}
use Rattle.mb_model.specs.declared.key.PublicKey.{PublicKey}
use Rattle.mb_model.specs.declared.tools.Keyfile.{Keyfile}
use Rattle.mb_model.specs.records.KeyFormat.{keyfile_format}
use Rattle.mb_model.specs.outside.Texts.{line_with_lf}
use Rattle.mb_model.specs.machine.SignedOrders.{keyfile_after_use}
use Rattle.mb_model.specs.memories.Factory.{serial_from, IsFactoryImage}
use Rattle.mb_model_commands.specs.declared.role.Role.TheVariants as role
use Rattle.mb_model_commands.specs.Commands.{Command, read, find, either_command, write, print, refuse}
use Rattle.mb_model_commands.specs.Inputs.{birth_noise_input, key_input, owner_input, code_input}

-- the names of the files
pub record FactoryNames : Type 0 where
  pub noise : List ℕ
  pub key : List ℕ
  pub owner : List ℕ
  pub code : List ℕ
  pub image : List ℕ

-- the line that reports the serial of a device made from this noise
abbrev pub serial_text : List ℕ → List ℕ
serial_text noise = line_with_lf (codes "serial " ++ encode_lower (serial_from noise))

-- writes the maker's key with its index advanced, then the image, and prints the serial
unfoldable pub write_device : FactoryNames → List ℕ → Keyfile → List ℕ → Command
write_device names noise key image =
    write (record { role = role.Key; name = names.key; bytes = keyfile_format.spelling (keyfile_after_use key) })
    (write (record { role = role.Image; name = names.image; bytes = image }) (print (serial_text noise)))

-- makes and writes the new device, whose birth the maker's key signs, unless the key's 32 indices are used
unfoldable pub make_device : FactoryNames → List ℕ → Keyfile → PublicKey → List ℕ → Command
make_device names noise key owner code =
    either_command (key.next ≡ 32) (refuse (codes "spent"))
    (find (IsFactoryImage key.seed key.next owner code noise) (write_device names noise key))

-- the noise, the maker's key, the owner's public key and the code are read, and the device is made
unfoldable pub factory : FactoryNames → Command
factory names =
    read (birth_noise_input names.noise) (λ noise.
    read (key_input names.key) (λ key.
    read (owner_input names.owner) (λ owner.
    read (code_input names.code) (λ code.
    make_device names noise key owner code))))
