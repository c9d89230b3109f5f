-- The input of a relying party: its policy. Does each text say one policy, or fail at one line?
use Rattle.std.specs.Prelude.{ℕ, List}
use Rattle.mb_model_commands.specs.declared.role.Role.TheVariants as role
use Rattle.mb_model_commands.specs.Commands.{Input}
use Rattle.mb_model_commands.specs.Inputs.{text_input}
use Rattle.mb_policy.specs.Policies.{PolicyItem, IsPolicy}

-- a relying party's policy, as the items that its lines say
abbrev pub policy_input : List ℕ → Input (List PolicyItem)
policy_input name = text_input role.Policy IsPolicy name
