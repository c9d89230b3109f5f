-- What the run of a call comes to, before anything is done in the device. Does a run that fails tell anything?
use Rattle.std.specs.Prelude.{◌≡◌, ◌≤◌, ℕ, List, length, Bool, true, false, Option, None, Some}
use Rattle.mb_format.specs.Format.{Spells}
use Rattle.mb_model.specs.application.Runs.{AppRun}
use Rattle.mb_model.specs.declared.limits.TheConstants.{CALL_STEPS, MESSAGE_LIMIT}
use Rattle.mb_model.specs.declared.region.Region.{Region}
use Rattle.mb_model.specs.declared.region.Secret.{Secret}
use Rattle.mb_model.specs.declared.running.AppEnd.{AppEnd}
use Rattle.mb_model.specs.declared.running.AppEnd.TheVariants as end
use Rattle.mb_model.specs.machine.Actions.{Action, action_format}
use Rattle.mb_appvm.specs.Asking.{AsksNothing}
use Rattle.mb_device_regions.specs.declared.acting.Acted.{Acted}
use Rattle.mb_device_regions.specs.Demands.{AreKept, secrets_after_all}
use Rattle.mb_device_regions.specs.Secrets.{IsKeptRegion}

-- the region of the layer and the one above it, as they are read: layer 3 has none above
abbrev pub AreSeen : ℕ → Region → Option Region → Region → Region → Type 0
AreSeen layer own (Some above) two three = (layer ≡ 2) × (own ≡ two) × (above ≡ three)
AreSeen layer own None two three = (layer ≡ 3) × (own ≡ three)

-- the run halted with this output; or it ended otherwise
abbrev pub EndsAs : Bool → AppEnd → List ℕ → Type 0
EndsAs true (end.Halted steps emitted) output = output ≡ emitted
EndsAs true _ output = ⊥
EndsAs false (end.Halted steps emitted) output = ⊥
EndsAs false _ output = Unit {0}

-- a run with these secrets has halted with this output, or has ended otherwise
pub record EndsWithOutput
    (code input : List ℕ) (seen : ℕ → Option (List Secret)) (halted : Bool) (output : List ℕ) : Type 0 where
  pub ending : AppEnd
  pub run : AppRun code input seen CALL_STEPS ending
  pub ends : EndsAs halted ending output

-- the output is an action, whose demands lead from one region to another, and which answers
pub record IsActed (number : ℕ) (output : List ℕ) (before : Region) (acted : Acted) : Type 0 where
  pub action : Action
  pub spelled : Spells action_format output action
  pub met : secrets_after_all number action.demands before.secrets ≡ Some acted.region.secrets
  pub keys : acted.region.keys ≡ before.keys
  pub answer : acted.answer ≡ action.answer

-- the output is no action, or it is one whose demands cannot be met
pub data IsNotActed (number : ℕ) (output : List ℕ) (before : List Secret) : Type 0 where
  is_no_action : AsksNothing output → IsNotActed number output before
  is_unmet : (action : Action) → Spells action_format output action
      → secrets_after_all number action.demands before ≡ None → IsNotActed number output before

-- The output is an action: what its demands make of the secrets, which are kept as a region keeps them, and its answer.
pub record IsActionDone (number : ℕ) (output : List ℕ) (before after : List Secret) (answer : List ℕ) : Type 0 where
  pub action : Action
  pub spelled : Spells action_format output action
  pub met : secrets_after_all number action.demands before ≡ Some after
  pub kept : AreKept after
  pub answers : answer ≡ action.answer

-- what the output asks for is done on the secrets, or it cannot be done
abbrev pub ActsIn : ℕ → List ℕ → List Secret → Option (List Secret × List ℕ) → Type 0
ActsIn number output before None = IsNotActed number output before
ActsIn number output before (Some done) = IsActionDone number output before done.0 done.1

-- the run halted, and what it asked for can be done
pub record HasActed
    (code input : List ℕ) (seen : ℕ → Option (List Secret)) (number : ℕ) (before : Region) (acted : Acted)
    : Type 0 where
  pub output : List ℕ
  pub ended : EndsWithOutput code input seen true output
  pub is : IsActed number output before acted

-- the run ended otherwise, or what it asked for cannot be done
pub data HasFailed (code input : List ℕ) (seen : ℕ → Option (List Secret)) (number : ℕ) (before : Region) : Type 0 where
  ends_badly : (output : List ℕ) → EndsWithOutput code input seen false output → HasFailed code input seen number before
  asks_badly : (output : List ℕ) → EndsWithOutput code input seen true output → IsNotActed number output before.secrets
      → HasFailed code input seen number before

-- what came of running the code and doing what it asks for
abbrev pub ActsOn
    : List ℕ → List ℕ → (ℕ → Option (List Secret)) → ℕ → Region → Option Acted → Type 0
ActsOn code input seen number before None = HasFailed code input seen number before
ActsOn code input seen number before (Some acted) = HasActed code input seen number before acted

-- what code asked for can be stored, and answered
pub record CanBeAnswered (acted : Acted) : Type 0 where
  pub kept : IsKeptRegion acted.region
  pub short : length acted.answer ≤ MESSAGE_LIMIT
