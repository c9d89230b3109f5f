-- What the command `hsskeygen` does. Does a maker's HSS key come from the noise and the number of levels alone, and is
-- its hash the one that is printed?
use Rattle.std.specs.Prelude.{ℕ, List, ◌++◌, codes}
use Rattle.sha2.specs.Sha256.{sha256}
use Rattle.hex.specs.Hex.{encode_lower}
use Rattle.mb_model.specs.outside.Texts.{line_with_lf}
use Rattle.mb_model_commands.specs.declared.role.Role.TheVariants as role
use Rattle.mb_model_commands.specs.Commands.{Command, read, write, print}
use Rattle.mb_hss.specs.HssKeyFormat.{hss_key_format}
use Rattle.mb_hss.specs.MakerFormat.{maker_format}
use Rattle.mb_hss.specs.MakerKeys.{new_maker, maker_key}
use Rattle.mb_tools_hss.specs.MakerInputs.{maker_noise_input}

-- the names of the files, and the number of levels
pub record HsskeygenNames : Type 0 where
  pub noise : List ℕ
  pub levels : ℕ
  pub key : List ℕ
  pub public : List ℕ

-- the line with the hash of a maker's public key
abbrev pub maker_text : List ℕ → List ℕ
maker_text public = line_with_lf (codes "maker " ++ encode_lower (sha256 public))

-- the public key of a new maker, in bytes
abbrev pub new_maker_key : List ℕ → ℕ → List ℕ
new_maker_key noise levels = hss_key_format.spelling (maker_key (new_maker noise levels))

-- The noise is read, and a new maker is derived from it, none of whose numbers is used. The maker's file is written,
-- then its public key, and the public key's hash is printed.
unfoldable pub hsskeygen : HsskeygenNames → Command
hsskeygen names =
    read (maker_noise_input names.noise) (λ noise.
    write (record {
      role = role.Key;
      name = names.key;
      bytes = maker_format.spelling (new_maker noise names.levels);
    })
    (write (record { role = role.Public; name = names.public; bytes = new_maker_key noise names.levels })
    (print (maker_text (new_maker_key noise names.levels)))))
