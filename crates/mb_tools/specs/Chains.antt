-- How a command ends if its chain is not accepted, or if there is no memory to verify it. Is each reason reported by
-- its own number, and at its own place?
use Rattle.std.specs.Prelude.{◌≡◌, Option, Some, None}
use Rattle.mb_model.specs.chains.Acceptance.{ChainRefusal}
use Rattle.mb_model_commands.specs.VerifyCommand.{chain_refusal_line}
use Rattle.mb_console.specs.declared.end.End.{End}
use Rattle.mb_console.specs.declared.end.End.TheVariants as end
use Rattle.mb_console.specs.Ending.{RefusesWith}

abbrev pub TellsRefusal : Option ChainRefusal → End → Type 0
TellsRefusal (Some reason) why = RefusesWith (chain_refusal_line reason) why
TellsRefusal None why = why ≡ end.NoMemory
