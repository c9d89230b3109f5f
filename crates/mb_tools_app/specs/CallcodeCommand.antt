-- What the command `callcode` does. Does it do with the secrets of a text what a call of the code does with those of a
-- region?
use Rattle.std.specs.Prelude.{◌≡◌, ℕ, ◌≤◌, ◌==◌, List, [], ◌∷◌, ◌++◌, length, codes}
use Rattle.std.specs.Prelude.{Option, Some, None, if◌then◌else◌}
use Rattle.std.specs.Fmt.{decimal}
use Rattle.mb_format.specs.Format.{Spells, FailsWhole}
use Rattle.mb_model.specs.declared.limits.TheConstants.{CALL_STEPS, OUTPUT_LIMIT}
use Rattle.mb_model.specs.declared.region.Secret.{Secret}
use Rattle.mb_model.specs.declared.state.State.{State}
use Rattle.mb_model.specs.declared.running.AppEnd.{AppEnd}
use Rattle.mb_model.specs.declared.running.AppEnd.TheVariants as end
use Rattle.mb_model.specs.outside.Texts.{line_with_lf}
use Rattle.mb_model.specs.chains.Lines.{spaced_words, hex_word}
use Rattle.mb_model.specs.owners.Layers.{unowned_layers}
use Rattle.mb_model.specs.owners.Regions.{empty_region}
use Rattle.mb_model.specs.application.Runs.{AppRun}
use Rattle.mb_model.specs.machine.Actions.{Action, action_format}
use Rattle.mb_model.specs.machine.Calls.{after_demands}
use Rattle.mb_model_commands.specs.declared.role.Role.TheVariants as role
use Rattle.mb_model_commands.specs.Commands.{Input, Command, read, find, write, print, refuse}
use Rattle.mb_model_commands.specs.Inputs.{text_input, code_input}
use Rattle.mb_appvm.specs.SecretTexts.{AreSecrets, secrets_text}
use Rattle.mb_tools_app.specs.AppInputs.{app_input}
use Rattle.mb_tools_app.specs.AppCommand.{tell_end}

-- the names of the files: the code, the secrets before, the input, and the secrets afterwards
pub record CallcodeNames : Type 0 where
  pub code : List ℕ
  pub secrets : List ℕ
  pub input : List ℕ
  pub next : List ℕ

-- the text of the secrets; it is at fault at the first line that is wrong
abbrev pub secrets_input : List ℕ → Input (List Secret)
secrets_input name = text_input role.Text AreSecrets name

-- ---- the run

-- what layer 3 can read: region 3, which has these secrets
abbrev pub secrets_three : List Secret → ℕ → Option (List Secret)
secrets_three secrets region = if region == 3 then Some secrets else None

-- no more was emitted than fits
abbrev pub HasShortOutput : AppEnd → Type 0
HasShortOutput (end.Halted steps output) = length output ≤ OUTPUT_LIMIT
HasShortOutput (end.Trap cause place output) = length output ≤ OUTPUT_LIMIT
HasShortOutput (end.OutOfSteps output) = length output ≤ OUTPUT_LIMIT

-- ---- what comes of an output

-- A state of which nothing counts but that region 3 has these secrets, for what code asks for to be done on. Its log is
-- empty, so what is kept is kept with the configuration number 0.
abbrev pub state_with : List Secret → State
state_with secrets = record {
  serial = [];
  layers = unowned_layers;
  codes = record { one = None; two = None; three = None };
  log = [];
  device = record { identifier = []; seed = [] };
  uses = 0;
  two = empty_region;
  three = record { secrets = secrets; keys = [] };
}

-- The code's demands were met, with these secrets afterwards, and this is its answer; or the region has no room for
-- what is demanded; or the output is no action, and fails to be one at this offset.
pub data OutputEnd : Type 0 where
  acts : List Secret → List ℕ → OutputEnd
  finds_it_full : OutputEnd
  asks_for_nothing : ℕ → OutputEnd

abbrev pub acted : Option State → List ℕ → OutputEnd
acted None answer = finds_it_full
acted (Some state) answer = acts state.three.secrets answer

-- what an output comes to, by the demands of the action that it spells, as a device does them
pub data OutputComesTo (secrets : List Secret) (output : List ℕ) (told : OutputEnd) : Type 0 where
  by_action : (action : Action) → Spells action_format output action
      → told ≡ acted (after_demands 3 action.demands (state_with secrets)) action.answer
      → OutputComesTo secrets output told
  by_offset : (offset : ℕ) → FailsWhole action_format output offset → told ≡ asks_for_nothing offset
      → OutputComesTo secrets output told

-- the secrets afterwards are written and the answer is printed, or the command is refused with what the device hides
abbrev pub tell_output : List ℕ → OutputEnd → Command
tell_output next (acts secrets answer) =
    write (record { role = role.Out; name = next; bytes = secrets_text secrets })
    (print (line_with_lf (spaced_words (codes "called" ∷ hex_word answer ∷ []))))
tell_output next finds_it_full = refuse (codes "full")
tell_output next (asks_for_nothing offset) = refuse (codes "no action at " ++ decimal offset)

-- what the end of the run comes to: if it has halted, what its output comes to; any other end is told as `appcode` does
abbrev pub tell_call : List ℕ → List Secret → AppEnd → Command
tell_call next secrets (end.Halted steps output) = find (OutputComesTo secrets output) (tell_output next)
tell_call next secrets (end.Trap cause place output) = tell_end (end.Trap cause place output)
tell_call next secrets (end.OutOfSteps output) = tell_end (end.OutOfSteps output)

-- The code runs as layer 3, for at most as many steps as a call has. Whether it begins as code does that takes calls is
-- not asked.
abbrev pub call_code : List ℕ → List ℕ → List Secret → List ℕ → Command
call_code next code secrets input = find (AppRun code input (secrets_three secrets) CALL_STEPS) (tell_call next secrets)

-- the code, the secrets and the input are read, and the code is called
unfoldable pub callcode : CallcodeNames → Command
callcode names =
    read (code_input names.code) (λ code.
    read (secrets_input names.secrets) (λ secrets.
    read (app_input names.input) (λ input.
    call_code names.next code secrets input)))
