-- How a run of an application ends, and what of a device it can see.
use Rattle.std.specs.Prelude.{◌≡◌, ℕ, zero, suc, ◌+◌, ◌==◌, nat_le, Bool, ◌&&◌, if◌then◌else◌}
use Rattle.std.specs.Prelude.{List, [], replicate, Option, Some, None}
use Rattle.mb_model.specs.declared.layer.Layers.{Layers}
use Rattle.mb_model.specs.declared.region.Region.{Region}
use Rattle.mb_model.specs.declared.region.Secret.{Secret}
use Rattle.mb_model.specs.owners.Layers.{is_upper, is_runnable}
use Rattle.mb_model.specs.declared.limits.TheConstants.{MEMORY_LENGTH}
use Rattle.mb_model.specs.declared.running.AppEnd.{AppEnd}
use Rattle.mb_model.specs.declared.running.AppEnd.TheVariants as end
use Rattle.mb_model.specs.application.Application.{AppState, Surroundings, StepOutcome, goes, run_halts, traps, AppStep}

-- a machine before its first instruction
abbrev pub first_state : AppState
first_state = record { place = 0; stack = []; returns = []; memory = replicate MEMORY_LENGTH 0; output = [] }

-- what follows from an outcome: the next machine goes on, or the run ends
abbrev pub LeadsOn : (AppState → Type 0) → AppState → StepOutcome → ℕ → AppEnd → Type 0
LeadsOn GoesOn machine (goes next) steps ending = GoesOn next
LeadsOn GoesOn machine run_halts steps ending = ending ≡ end.Halted steps machine.output
LeadsOn GoesOn machine (traps cause) steps ending = ending ≡ end.Trap cause machine.place machine.output

-- The end of a run from a machine that has done `steps` steps, and may do this many more.
unfoldable pub RunsTo : Surroundings → AppState → ℕ → ℕ → AppEnd → Type 0
RunsTo seen machine steps zero ending = ending ≡ end.OutOfSteps machine.output
RunsTo seen machine steps (suc more) ending =
    (outcome : StepOutcome) × AppStep seen machine outcome
    × LeadsOn (λ next. RunsTo seen next (steps + 1) more ending) machine outcome (steps + 1) ending

-- The running layer may read this region: it is 2 or 3, not below the layer, and names a layer that may run. The layer
-- that runs may be any number: one below 2 may read what 2 may, and one above 3 nothing.
abbrev pub is_readable : Layers → ℕ → ℕ → Bool
is_readable layers layer region = is_upper region && (nat_le layer region && is_runnable layers region)

-- the secrets of a region, if the running layer may read them
abbrev pub readable_secrets : Layers → ℕ → Region → Region → ℕ → Option (List Secret)
readable_secrets layers layer two three region =
    if is_readable layers layer region then Some (if region == 2 then two.secrets else three.secrets) else None

-- how the run of a code ends, with an input and these secrets, after at most this many steps
abbrev pub AppRun : List ℕ → List ℕ → (ℕ → Option (List Secret)) → ℕ → AppEnd → Type 0
AppRun code input secrets steps ending =
    RunsTo (record { code = code; input = input; secrets = secrets }) first_state 0 steps ending

-- ---- laws

-- a run ends in one way
abbrev pub RunsEndOnce : Type 0
RunsEndOnce =
    (code input : List ℕ) (secrets : ℕ → Option (List Secret)) (steps : ℕ) (a b : AppEnd)
    → AppRun code input secrets steps a → AppRun code input secrets steps b → a ≡ b

-- Whatever stands in a region that the layer may not read changes nothing: devices that agree on the secrets that may
-- be read have equal ends.
abbrev pub RunsSeeNothingElse : Type 0
RunsSeeNothingElse =
    (layers : Layers) (layer : ℕ) (two three other_two other_three : Region)
    (code input : List ℕ) (steps : ℕ) (a b : AppEnd)
    → ((region : ℕ)
    → readable_secrets layers layer two three region ≡ readable_secrets layers layer other_two other_three region)
    → AppRun code input (readable_secrets layers layer two three) steps a
    → AppRun code input (readable_secrets layers layer other_two other_three) steps b → a ≡ b
