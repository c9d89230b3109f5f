-- What an instruction of the application machine does: one step, as a relation. Which trap comes first, and when?
use Rattle.std.specs.Prelude.{◌≡◌, ℕ, zero, suc, ◌+◌, ◌-◌, ◌*◌, ◌/◌, ◌%◌, ◌^◌, ◌<◌, ◌≤◌, ◌⊎◌, ◌==◌, nat_lt}
use Rattle.std.specs.Prelude.{bit_and, bit_or, bit_xor, List, [], ◌∷◌, ◌++◌, length, take, drop, get_or, find}
use Rattle.std.specs.Prelude.{Option, Some, None, if◌then◌else◌}
use Rattle.mb_model.specs.declared.region.Secret.{Secret}
use Rattle.mb_model.specs.machine.LayerEvents.{has_name}
use Rattle.mb_model.specs.declared.limits.TheConstants.{STACK_LIMIT, CALL_LIMIT, MEMORY_LENGTH, OUTPUT_LIMIT}
use Rattle.mb_model.specs.declared.instruction.Operation.{Operation}
use Rattle.mb_model.specs.declared.instruction.Operation.TheVariants as op
use Rattle.mb_model.specs.declared.instruction.Plain.{Plain}
use Rattle.mb_model.specs.declared.instruction.Plain.TheVariants as plain
use Rattle.mb_model.specs.declared.instruction.Instruction.{Instruction}
use Rattle.mb_model.specs.declared.instruction.Instruction.TheVariants as instruction
use Rattle.mb_model.specs.declared.trap.Trap.{Trap}
use Rattle.mb_model.specs.declared.trap.Trap.TheVariants as trap
use Rattle.mb_model.specs.application.Instructions.{Stands}

-- ---- machines

-- A machine between two instructions. The value on top of the stack stands last in its list, and so does the place
-- that was kept last.
pub record AppState : Type 0 where
  pub place : ℕ
  pub stack : List ℕ
  pub returns : List ℕ
  pub memory : List ℕ
  pub output : List ℕ

-- What a run sees: the code, the input, and the secrets of each region; None if the region may not be read.
pub record Surroundings : Type 0 where
  pub code : List ℕ
  pub input : List ℕ
  pub secrets : ℕ → Option (List Secret)

-- what an instruction leads to: the next machine, the end, or a trap
pub data StepOutcome : Type 0 where
  goes : AppState → StepOutcome
  run_halts : StepOutcome
  traps : Trap → StepOutcome

-- the number with which a trap is reported
abbrev pub trap_number : Trap → ℕ
trap_number trap.NoInstruction = 1
trap_number trap.TooFewValues = 2
trap_number trap.TooManyValues = 3
trap_number trap.BadAddress = 4
trap_number trap.DivisionByZero = 5
trap_number trap.BadRegion = 6
trap_number trap.OutputFull = 7
trap_number trap.BadReturn = 8

-- ---- what instructions take and leave

-- how many values an instruction without an operand takes from the stack
abbrev pub plain_takes : Plain → ℕ
plain_takes plain.Halt = 0
plain_takes plain.Pop = 1
plain_takes plain.Dup = 1
plain_takes plain.Swap = 2
plain_takes plain.Over = 2
plain_takes (plain.Compute operation) = 2
plain_takes plain.Return = 0
plain_takes plain.Load = 1
plain_takes plain.Store = 2
plain_takes plain.Input = 1
plain_takes plain.Length = 0
plain_takes plain.Emit = 1

-- how many values an instruction without an operand leaves in place of those that it takes
abbrev pub plain_leaves : Plain → ℕ
plain_leaves plain.Halt = 0
plain_leaves plain.Pop = 0
plain_leaves plain.Dup = 2
plain_leaves plain.Swap = 2
plain_leaves plain.Over = 3
plain_leaves (plain.Compute operation) = 1
plain_leaves plain.Return = 0
plain_leaves plain.Load = 1
plain_leaves plain.Store = 0
plain_leaves plain.Input = 1
plain_leaves plain.Length = 1
plain_leaves plain.Emit = 0

-- how many values any instruction takes, and how many it leaves in their place
abbrev pub takes : Instruction → ℕ
takes (instruction.Plain kind) = plain_takes kind
takes (instruction.Push number) = 0
takes (instruction.Jump to) = 0
takes (instruction.JumpZero to) = 1
takes (instruction.Call to) = 0
takes (instruction.Get name) = 2

abbrev pub leaves : Instruction → ℕ
leaves (instruction.Plain kind) = plain_leaves kind
leaves (instruction.Push number) = 1
leaves (instruction.Jump to) = 0
leaves (instruction.JumpZero to) = 0
leaves (instruction.Call to) = 0
leaves (instruction.Get name) = 1

-- ---- what instructions do

abbrev pub quotient : ℕ → ℕ → Option ℕ
quotient a zero = None
quotient a (suc b) = Some (a / suc b)

abbrev pub remainder : ℕ → ℕ → Option ℕ
remainder a zero = None
remainder a (suc b) = Some (a % suc b)

-- the result of an operation on a and b, with b on top; None for a division by 0
abbrev pub result_of : Operation → ℕ → ℕ → Option ℕ
result_of op.Add a b = Some ((a + b) % 2 ^ 32)
result_of op.Sub a b = Some ((a + (2 ^ 32 - b)) % 2 ^ 32)
result_of op.Mul a b = Some (a * b % 2 ^ 32)
result_of op.Div a b = quotient a b
result_of op.Rem a b = remainder a b
result_of op.And a b = Some (bit_and a b)
result_of op.Or a b = Some (bit_or a b)
result_of op.Xor a b = Some (bit_xor a b)
result_of op.Equal a b = Some (if a == b then 1 else 0)
result_of op.Less a b = Some (if nat_lt a b then 1 else 0)

-- the machine at the next place, with these values pushed
abbrev pub after_push : ℕ → List ℕ → AppState → AppState
after_push next values machine = record machine { place = next; stack = machine.stack ++ values }

-- the machine with these bytes in its memory, from an address on
abbrev pub after_write : ℕ → List ℕ → AppState → AppState
after_write address bytes machine =
    record machine { memory = take address machine.memory ++ bytes ++ drop (address + length bytes) machine.memory }

-- an operation pushes its result, or traps if it has none
abbrev pub outcome_of_result : Option ℕ → ℕ → AppState → StepOutcome
outcome_of_result None next machine = traps trap.DivisionByZero
outcome_of_result (Some value) next machine = goes (after_push next (value ∷ []) machine)

-- the value that `get` pushes for a secret that is not there
abbrev pub absent_secret : ℕ
absent_secret = 4294967295

-- the secret is copied to memory and its length is pushed, or it does not fit; without one, `absent_secret` is pushed
abbrev pub DoesCopy : Option Secret → ℕ → ℕ → AppState → StepOutcome → Type 0
DoesCopy None next address machine outcome = outcome ≡ goes (after_push next (absent_secret ∷ []) machine)
DoesCopy (Some secret) next address machine outcome =
    ((MEMORY_LENGTH < address + length secret.value) × (outcome ≡ traps trap.BadAddress))
    ⊎ ((address + length secret.value ≤ MEMORY_LENGTH)
    × (outcome ≡ goes (after_push next (length secret.value ∷ []) (after_write address secret.value machine))))

-- the region may not be read, or its secret with this name is looked up
abbrev pub DoesGet : Option (List Secret) → List ℕ → ℕ → ℕ → AppState → StepOutcome → Type 0
DoesGet None name next address machine outcome = outcome ≡ traps trap.BadRegion
DoesGet (Some secrets) name next address machine outcome =
    DoesCopy (find (has_name name) secrets) next address machine outcome

-- What an instruction without an operand does with the values that it takes, the last of them from the top; the
-- machine is without these values.
abbrev pub DoesPlain : List ℕ → Plain → ℕ → List ℕ → AppState → StepOutcome → Type 0
DoesPlain input plain.Halt next [] machine outcome = outcome ≡ run_halts
DoesPlain input plain.Pop next (a ∷ []) machine outcome = outcome ≡ goes (after_push next [] machine)
DoesPlain input plain.Dup next (a ∷ []) machine outcome = outcome ≡ goes (after_push next (a ∷ a ∷ []) machine)
DoesPlain input plain.Swap next (a ∷ b ∷ []) machine outcome = outcome ≡ goes (after_push next (b ∷ a ∷ []) machine)
DoesPlain input plain.Over next (a ∷ b ∷ []) machine outcome = outcome ≡ goes (after_push next (a ∷ b ∷ a ∷ []) machine)
DoesPlain input (plain.Compute operation) next (a ∷ b ∷ []) machine outcome =
    outcome ≡ outcome_of_result (result_of operation a b) next machine
DoesPlain input plain.Return next [] machine outcome =
    ((machine.returns ≡ []) × (outcome ≡ traps trap.BadReturn))
    ⊎ ((others : List ℕ) × (last : ℕ) × (machine.returns ≡ others ++ last ∷ [])
    × (outcome ≡ goes (record machine { place = last; returns = others })))
DoesPlain input plain.Load next (address ∷ []) machine outcome =
    ((MEMORY_LENGTH ≤ address) × (outcome ≡ traps trap.BadAddress))
    ⊎ ((address < MEMORY_LENGTH) × (outcome ≡ goes (after_push next (get_or machine.memory address 0 ∷ []) machine)))
DoesPlain input plain.Store next (value ∷ address ∷ []) machine outcome =
    ((MEMORY_LENGTH ≤ address) × (outcome ≡ traps trap.BadAddress))
    ⊎ ((address < MEMORY_LENGTH)
    × (outcome ≡ goes (after_push next [] (after_write address (value % 256 ∷ []) machine))))
DoesPlain input plain.Input next (index ∷ []) machine outcome =
    outcome ≡ goes (after_push next (get_or input index 256 ∷ []) machine)
DoesPlain input plain.Length next [] machine outcome = outcome ≡ goes (after_push next (length input ∷ []) machine)
DoesPlain input plain.Emit next (value ∷ []) machine outcome =
    ((OUTPUT_LIMIT ≤ length machine.output) × (outcome ≡ traps trap.OutputFull))
    ⊎ ((length machine.output < OUTPUT_LIMIT)
    × (outcome ≡ goes (after_push next [] (record machine { output = machine.output ++ value % 256 ∷ [] }))))
DoesPlain input kind next values machine outcome = ⊥

-- what any instruction does
abbrev pub Does : Surroundings → Instruction → ℕ → List ℕ → AppState → StepOutcome → Type 0
Does seen (instruction.Plain kind) next values machine outcome = DoesPlain seen.input kind next values machine outcome
Does seen (instruction.Push number) next [] machine outcome = outcome ≡ goes (after_push next (number ∷ []) machine)
Does seen (instruction.Jump to) next [] machine outcome = outcome ≡ goes (after_push to [] machine)
Does seen (instruction.JumpZero to) next (a ∷ []) machine outcome =
    outcome ≡ goes (after_push (if a == 0 then to else next) [] machine)
Does seen (instruction.Call to) next [] machine outcome =
    ((CALL_LIMIT ≤ length machine.returns) × (outcome ≡ traps trap.BadReturn))
    ⊎ ((length machine.returns < CALL_LIMIT)
    × (outcome ≡ goes (record (after_push to [] machine) { returns = machine.returns ++ next ∷ [] })))
Does seen (instruction.Get name) next (address ∷ region ∷ []) machine outcome =
    DoesGet (seen.secrets region) name next address machine outcome
Does seen it next values machine outcome = ⊥

-- ---- one step

-- One step, with the traps in their order: no instruction stands at the place, or the one there finds too few values,
-- or it would leave more than `STACK_LIMIT`, or it does what it does with the values that it takes. A step is a
-- relation with a case for each row of the machine's table; the code has no second engine.
pub data AppStep (seen : Surroundings) (machine : AppState) (outcome : StepOutcome) : Type 0 where
  unknown : ((it : Instruction) (next : ℕ) → Stands seen.code machine.place it next → ⊥)
      → outcome ≡ traps trap.NoInstruction → AppStep seen machine outcome
  lacks_operands : (it : Instruction) (next : ℕ) → Stands seen.code machine.place it next
      → length machine.stack < takes it
      → outcome ≡ traps trap.TooFewValues → AppStep seen machine outcome
  overflows : (it : Instruction) (next : ℕ) → Stands seen.code machine.place it next → takes it ≤ length machine.stack
      → takes it + STACK_LIMIT < length machine.stack + leaves it → outcome ≡ traps trap.TooManyValues
      → AppStep seen machine outcome
  does : (it : Instruction) (next : ℕ) → Stands seen.code machine.place it next → (rest values : List ℕ)
      → machine.stack ≡ rest ++ values → length values ≡ takes it → length rest + leaves it ≤ STACK_LIMIT
      → Does seen it next values (record machine { stack = rest }) outcome → AppStep seen machine outcome
