-- The inputs of the commands of a maker's HSS key: which value the bytes of each mean, and at which place they are at
-- fault.
use Rattle.std.specs.Prelude.{◌≡◌, ℕ, List}
use Rattle.mb_model.specs.declared.limits.TheConstants.{DRAW_LENGTH}
use Rattle.mb_model_commands.specs.declared.role.Role.TheVariants as role
use Rattle.mb_model_commands.specs.Commands.{Input}
use Rattle.mb_model_commands.specs.Inputs.{binary_input, leading_input}
use Rattle.mb_hss.specs.declared.key.HssKey.{HssKey}
use Rattle.mb_hss.specs.declared.maker.Maker.{Maker}
use Rattle.mb_hss.specs.HssKeyFormat.{hss_key_format}
use Rattle.mb_hss.specs.MakerFormat.{maker_format}

-- the noise from which a maker's key is derived
abbrev pub maker_noise_input : List ℕ → Input (List ℕ)
maker_noise_input name = leading_input role.Noise DRAW_LENGTH name

-- the file of a maker's key
abbrev pub maker_input : List ℕ → Input Maker
maker_input name = binary_input role.Key maker_format name

-- a maker's public key
abbrev pub hss_key_input : List ℕ → Input HssKey
hss_key_input name = binary_input role.Public hss_key_format name

-- the bytes of an endorsement that is to be verified; whether they are a signature is not decided here
abbrev pub endorsement_input : List ℕ → Input (List ℕ)
endorsement_input name = record {
  role = role.Endorsement;
  name = name;
  Is = λ bytes whole. whole ≡ bytes;
  FaultyAt = λ bytes place. ⊥;
}
