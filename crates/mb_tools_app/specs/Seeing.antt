-- What `app` can report of a device. Can anything else of the device change its line?
use Rattle.std.specs.Prelude.{◌≡◌, ℕ, ◌≤◌, ◌⊎◌, List, ◌++◌, Some}
use Rattle.mb_model.specs.declared.state.State.{State}
use Rattle.mb_model_commands.specs.Commands.{Past, Ended, CommandEnds, IsFaultless}
use Rattle.mb_tools_app.specs.AppCommand.{AppNames, code_of_layer, run_stored_code}

-- Two devices agree on what a layer sees: the layers, the layer's code, and the secrets of each region not below it.
pub record AgreeFor (layer : ℕ) (a b : State) : Type 0 where
  pub layers : a.layers ≡ b.layers
  pub code : code_of_layer a.codes layer ≡ code_of_layer b.codes layer
  pub two : layer ≤ 2 → a.two.secrets ≡ b.two.secrets
  pub three : layer ≤ 3 → a.three.secrets ≡ b.three.secrets

-- The command is done or refused, the host shows that this text was printed, and no call of the host failed.
pub record ShowsPrinted (e : Ended) (text : List ℕ) : Type 0 where
  pub faultless : IsFaultless e.before e.after
  pub complete : (e.status ≡ 0) ⊎ (e.status ≡ 7)
  pub shown : List ℕ
  pub before : e.before.printed ≡ Some shown
  pub after : e.after.printed ≡ Some (shown ++ text)

-- Over devices that agree on what the layer sees, the command has the same ends, whatever else differs; and if two of
-- these ends show what they print, they print the same, with the same status. It speaks of the command after its
-- inputs were read. From the law on ends of the machine alone (`RunsSeeNothingElse`) nothing follows about the printed
-- line. It is of two states; the law that begins with the bytes of two images stands on it, in `mb_top_laws`
-- (`app_tells_no_more_of_images`).
pub record AppSeesNothingElse : Type 0 where
  pub same_ends : (names : AppNames) (a b : State) (input : List ℕ) (past : Past) (e : Ended)
      → AgreeFor names.layer a b
      → CommandEnds (run_stored_code names (Some a) input) past e
      → CommandEnds (run_stored_code names (Some b) input) past e
  pub equal_lines : (names : AppNames) (a b : State) (input : List ℕ) (past other : Past) (e f : Ended)
      (text line : List ℕ) → AgreeFor names.layer a b
      → CommandEnds (run_stored_code names (Some a) input) past e → ShowsPrinted e text
      → CommandEnds (run_stored_code names (Some b) input) other f → ShowsPrinted f line
      → (text ≡ line) × (e.status ≡ f.status)
