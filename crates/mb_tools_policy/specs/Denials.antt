-- How the command ends if a configuration is denied, or if there is no memory to say so.
use Rattle.std.specs.Prelude.{◌≡◌, ◌⊎◌, ℕ, List}
use Rattle.mb_console.specs.declared.end.End.{End}
use Rattle.mb_console.specs.declared.end.End.TheVariants as end
use Rattle.mb_console.specs.Ending.{RefusesWith}
use Rattle.mb_tools_policy.specs.TrustCommand.{denied_line}

-- the configuration with this number is denied by the rule with this name, unless an allocation fails
abbrev pub TellsDenial : ℕ → List ℕ → End → Type 0
TellsDenial number rule why = RefusesWith (denied_line number rule) why ⊎ (why ≡ end.NoMemory)
