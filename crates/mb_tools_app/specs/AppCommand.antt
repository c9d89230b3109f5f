-- What the command `app` does. Does it report how the stored code of a layer runs, and change nothing?
use Rattle.std.specs.Prelude.{◌≡◌, ℕ, ◌==◌, List, [], ◌∷◌, codes, Option, Some, None, if◌then◌else◌}
use Rattle.std.specs.Fmt.{decimal}
use Rattle.mb_model.specs.declared.state.Codes.{Codes}
use Rattle.mb_model.specs.declared.state.State.{State}
use Rattle.mb_model.specs.outside.Texts.{line_with_lf}
use Rattle.mb_model.specs.chains.Lines.{spaced_words, hex_word}
use Rattle.mb_model.specs.owners.Layers.{Runnable}
use Rattle.mb_model_commands.specs.Commands.{Command, read, find, either_command, print, refuse}
use Rattle.mb_model_commands.specs.Inputs.{image_input}
use Rattle.mb_model.specs.declared.running.AppEnd.{AppEnd}
use Rattle.mb_model.specs.declared.running.AppEnd.TheVariants as end
use Rattle.mb_model.specs.application.Application.{trap_number}
use Rattle.mb_model.specs.application.Runs.{readable_secrets, AppRun}
use Rattle.mb_tools_app.specs.AppInputs.{app_input}

-- the names of the files, the layer whose code runs, and the most instructions that are executed
pub record AppNames : Type 0 where
  pub image : List ℕ
  pub layer : ℕ
  pub input : List ℕ
  pub steps : ℕ

-- the stored code of layer 2 or 3, if it has some
abbrev pub code_of_layer : Codes → ℕ → Option (List ℕ)
code_of_layer codes layer = if layer == 2 then codes.two else codes.three

-- The stored code of the layer runs on the input, for at most this many steps, and this is its end. It sees the secrets
-- of the regions that are not below the layer and name a layer that may run.
pub record RunsStoredCode (state : State) (layer : ℕ) (input : List ℕ) (steps : ℕ) (ending : AppEnd) : Type 0 where
  pub code : List ℕ
  pub stored : code_of_layer state.codes layer ≡ Some code
  pub run : AppRun code input (readable_secrets state.layers layer state.two state.three) steps ending

-- the line that reports how a run ends
abbrev pub app_line : AppEnd → List ℕ
app_line (end.Halted steps output) = spaced_words (codes "halted" ∷ decimal steps ∷ hex_word output ∷ [])
app_line (end.Trap cause place output) =
    spaced_words (codes "trap" ∷ decimal (trap_number cause) ∷ decimal place ∷ hex_word output ∷ [])
app_line (end.OutOfSteps output) = spaced_words (codes "out of steps" ∷ hex_word output ∷ [])

-- the line is printed if the run has halted; any other end is a refusal
abbrev pub tell_end : AppEnd → Command
tell_end (end.Halted steps output) = print (line_with_lf (app_line (end.Halted steps output)))
tell_end (end.Trap cause place output) = refuse (app_line (end.Trap cause place output))
tell_end (end.OutOfSteps output) = refuse (app_line (end.OutOfSteps output))

-- A dead device runs nothing, and any other runs the layer's code if the layer is runnable. A layer that may run has
-- code, by the form of layers, so there is no end for one without code; to run it as an empty code was not chosen.
abbrev pub run_stored_code : AppNames → Option State → List ℕ → Command
run_stored_code names None input = refuse (codes "zeroised")
run_stored_code names (Some state) input =
    either_command (Runnable state.layers names.layer)
    (find (RunsStoredCode state names.layer input names.steps) tell_end)
    (refuse (codes "refused 4 layer"))

-- the device's image and the input are read, and the end of the run is reported
unfoldable pub app : AppNames → Command
app names =
    read (image_input names.image) (λ image.
    read (app_input names.input) (λ input.
    run_stored_code names image.state input))
