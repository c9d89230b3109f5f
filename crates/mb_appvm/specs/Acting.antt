-- What the code's machine means, and what acting on its stack leaves.
use Rattle.std.specs.Prelude.{◌≡◌, ℕ, ◌==◌, List, ◌++◌, length, find, Option, Some, None, if◌then◌else◌}
use Rattle.std.specs.Option.{option_copied}
use Rattle.mb_model.specs.declared.region.Secret.{Secret}
use Rattle.mb_model.specs.machine.LayerEvents.{has_name}
use Rattle.mb_model.specs.declared.instruction.Instruction.{Instruction}
use Rattle.mb_model.specs.declared.instruction.Plain.{Plain}
use Rattle.mb_appvm.specs.declared.environment.Environment.{Environment}
use Rattle.mb_appvm.specs.declared.environment.Readable.{Readable}
use Rattle.mb_appvm.specs.declared.machine.Machine.{Machine}
use Rattle.mb_appvm.specs.declared.machine.Step.{Step}
use Rattle.mb_appvm.specs.declared.machine.Step.TheVariants as step
use Rattle.mb_appvm.specs.declared.running.CodeEnd.{CodeEnd}
use Rattle.mb_appvm.specs.declared.running.CodeEnd.TheVariants as code_end
use Rattle.mb_model.specs.declared.running.AppEnd.{AppEnd}
use Rattle.mb_model.specs.declared.running.AppEnd.TheVariants as end
use Rattle.mb_model.specs.application.Instructions.{Stands}
use Rattle.mb_model.specs.application.Application.{AppState, Surroundings, StepOutcome, goes, run_halts, traps}
use Rattle.mb_model.specs.application.Application.{takes, plain_takes, Does, DoesPlain, AppStep}

-- the secrets of a region, if those of regions 2 and 3 may be read that are given
abbrev pub secrets_among : Option (List Secret) → Option (List Secret) → ℕ → Option (List Secret)
secrets_among two three region = if region == 2 then two else if region == 3 then three else None

-- the secrets of a region that the code's value lets a run read
abbrev pub secrets_of : Readable → ℕ → Option (List Secret)
secrets_of readable = secrets_among (option_copied readable.two) (option_copied readable.three)

-- what the code's environment means
abbrev pub surroundings_of : Environment → Surroundings
surroundings_of environment = record {
  code = environment.code.now;
  input = environment.input.now;
  secrets = secrets_of environment.readable;
}

-- the run may not read a region, or may read these secrets of it
abbrev pub MayNotRead : Environment → ℕ → Type 0
MayNotRead environment region = (surroundings_of environment).secrets region ≡ None

abbrev pub MayRead : Environment → ℕ → List Secret → Type 0
MayRead environment region secrets = (surroundings_of environment).secrets region ≡ Some secrets

-- no secret has the name, or the first that has it has this value
abbrev pub LacksSecret : List ℕ → List Secret → Type 0
LacksSecret name secrets = find (has_name name) secrets ≡ None

abbrev pub HasValue : Option Secret → List ℕ → Type 0
HasValue None value = ⊥
HasValue (Some secret) value = value ≡ secret.value

abbrev pub HasSecret : List ℕ → List Secret → List ℕ → Type 0
HasSecret name secrets value = HasValue (find (has_name name) secrets) value

-- the instruction that stands at a place, and the next place; or none stands there
abbrev pub Fetches : List ℕ → ℕ → Option (Instruction × ℕ) → Type 0
Fetches code place None = (it : Instruction) (next : ℕ) → Stands code place it next → ⊥
Fetches code place (Some found) = Stands code place found.0 found.1

-- the machine that the code's fields mean
abbrev pub state_of : Machine → AppState
state_of machine = record {
  place = machine.place;
  stack = machine.stack.items;
  returns = machine.returns.items;
  memory = machine.memory;
  output = machine.output.items;
}

-- the outcome that an answer and the machine after it mean
abbrev pub outcome_of : Step → Machine → StepOutcome
outcome_of step.GoesOn new = goes (state_of new)
outcome_of step.Ends new = run_halts
outcome_of (step.Traps cause) new = traps cause

-- a machine that does not go on is as it was
abbrev pub KeepsMachine : Step → Machine → Machine → Type 0
KeepsMachine step.GoesOn old new = Unit {0}
KeepsMachine step.Ends old new = state_of new ≡ state_of old
KeepsMachine (step.Traps cause) old new = state_of new ≡ state_of old

-- what a step answers and leaves is one step of the machine
pub record DoesStep (seen : Surroundings) (old : Machine) (result : Step) (new : Machine) : Type 0 where
  pub is : AppStep seen (state_of old) (outcome_of result new)
  pub kept : KeepsMachine result old new

-- the machine without the values that an instruction takes
abbrev pub without_values : Machine → List ℕ → AppState
without_values machine rest = record (state_of machine) { stack = rest }

-- an instruction was done with the values that it takes, and the stack had enough
pub record DoesOn (seen : Surroundings) (it : Instruction) (next : ℕ) (old : Machine) (result : Step) (new : Machine)
    : Type 0 where
  pub rest : List ℕ
  pub values : List ℕ
  pub split : old.stack.items ≡ rest ++ values
  pub enough : length values ≡ takes it
  pub does : Does seen it next values (without_values old rest) (outcome_of result new)
  pub kept : KeepsMachine result old new

-- an instruction without an operand was done with the values that it takes
pub record DoesPlainOn (input : List ℕ) (kind : Plain) (next : ℕ) (old : Machine) (result : Step) (new : Machine)
    : Type 0 where
  pub rest : List ℕ
  pub values : List ℕ
  pub split : old.stack.items ≡ rest ++ values
  pub enough : length values ≡ plain_takes kind
  pub does : DoesPlain input kind next values (without_values old rest) (outcome_of result new)
  pub kept : KeepsMachine result old new

-- the end of a run that ends so and emitted these bytes
abbrev pub end_with : CodeEnd → List ℕ → AppEnd
end_with (code_end.Halted steps) output = end.Halted steps output
end_with (code_end.Trap cause place) output = end.Trap cause place output
end_with code_end.OutOfSteps output = end.OutOfSteps output
