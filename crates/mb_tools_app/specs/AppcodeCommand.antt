-- What the command `appcode` does. Does it report how a code would run as layer 3 of a device whose layers may all run
-- and which has no secrets?
use Rattle.std.specs.Prelude.{◌≡◌, ◌↔◌, ℕ, ◌==◌, List, [], Option, Some, None, if◌then◌else◌}
use Rattle.mb_model.specs.declared.region.Secret.{Secret}
use Rattle.mb_model.specs.declared.state.State.{State}
use Rattle.mb_model.specs.owners.Layers.{Runnable}
use Rattle.mb_model_commands.specs.Commands.{Command, read, find, Past, Ended, CommandEnds}
use Rattle.mb_model_commands.specs.Inputs.{code_input}
use Rattle.mb_model.specs.application.Runs.{AppRun}
use Rattle.mb_tools_app.specs.AppInputs.{app_input}
use Rattle.mb_tools_app.specs.AppCommand.{AppNames, tell_end, run_stored_code}

-- the names of the files, and the most instructions that are executed
pub record AppcodeNames : Type 0 where
  pub code : List ℕ
  pub input : List ℕ
  pub steps : ℕ

-- what layer 3 can read: region 3, which has no secrets
abbrev pub no_secrets : ℕ → Option (List Secret)
no_secrets region = if region == 3 then Some [] else None

-- The code runs on the input, and the end of the run is reported as that of a stored code. This is said by the run
-- alone, and not of a device, of which most parts would mean nothing; `AppcodeRunsAsApp` says it of devices.
abbrev pub run_code : List ℕ → List ℕ → ℕ → Command
run_code code input steps = find (AppRun code input no_secrets steps) tell_end

-- the code and the input are read, and the end of the run is reported
unfoldable pub appcode : AppcodeNames → Command
appcode names =
    read (code_input names.code) (λ code.
    read (app_input names.input) (λ input.
    run_code code input names.steps))

-- ---- what follows

-- Over a device whose layers may all run, which has no secrets in region 3, and whose layer 3 has the code, `app` ends
-- for layer 3 as `appcode` does, once the inputs are read: in the same ways, and in no other.
abbrev pub AppcodeRunsAsApp : Type 0
AppcodeRunsAsApp =
    (names : AppNames) (state : State) (code input : List ℕ) (past : Past) (e : Ended)
    → names.layer ≡ 3 → Runnable state.layers 3 → state.codes.three ≡ Some code → state.three.secrets ≡ []
    → CommandEnds (run_stored_code names (Some state) input) past e
    ↔ CommandEnds (run_code code input names.steps) past e
