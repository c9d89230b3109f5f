-- What a step writes to memory is what its line says.
use Rattle.std.proofs.Common.{◌≡◌, ℕ, ◌+◌, ◌-◌, ◌%◌, ◌<◌, ◌≤◌, ◌⊎◌, inl, inr, List, [], ◌∷◌, ◌++◌, length, take, drop, get_or, find, Bool, true, false, Option, Some, None, if◌then◌else◌, nat_le, nat_lt, refl, sym, ap, subst, ◌∙◌, arith}
use Rattle.std.proofs.lemmas.Grind.{common_steps}
use Rattle.mb_model.specs.declared.limits.TheConstants.{MEMORY_LENGTH}
use Rattle.mb_model.specs.declared.region.Secret.{Secret}
use Rattle.mb_model.specs.machine.LayerEvents.{has_name}
use Rattle.mb_model.specs.declared.trap.Trap.{Trap}
use Rattle.mb_model.specs.declared.instruction.Plain.{Plain}
use Rattle.mb_model.specs.declared.instruction.Plain.TheVariants as plain
use Rattle.mb_model.specs.declared.instruction.Instruction.{Instruction}
use Rattle.mb_model.specs.declared.instruction.Instruction.TheVariants as instruction
use Rattle.mb_model.specs.application.Instructions.{Stands}
use Rattle.mb_model.specs.application.Application.{AppState, Surroundings, StepOutcome, goes, run_halts, traps, result_of, outcome_of_result, DoesCopy, DoesGet, DoesPlain, Does, AppStep, unknown, lacks_operands, overflows, does}
use Rattle.mb_model_lemmas.proofs.CodeLemmas.{one_instruction_anywhere}
use Rattle.mb_appvm.specs.Tracing.{if_room, copied, value_if_room, at_address, written_by, written, with_written, TracesAreTrue}

-- ---- outcomes

-- the memory of the machine to which an outcome goes on
abbrev memory_of : List ℕ → StepOutcome → List ℕ
memory_of otherwise (goes m) = m.memory
memory_of otherwise run_halts = otherwise
memory_of otherwise (traps cause) = otherwise

same_memory : (a b : AppState) → goes a ≡ goes b → a.memory ≡ b.memory
same_memory a b same = ap (memory_of a.memory) same

no_halt : (a : AppState) → goes a ≡ run_halts → ⊥
no_halt a is = cc

no_trap : (a : AppState) (cause : Trap) → goes a ≡ traps cause → ⊥
no_trap a cause is = cc

-- ---- the two values on top

two_long : (rest : List ℕ) (under top : ℕ) → nat_lt (length (rest ++ under ∷ top ∷ [])) 2 ≡ false
two_long rest under top = grind (arith, common_steps)

under_is : (rest : List ℕ) (under top : ℕ) → get_or (rest ++ under ∷ top ∷ []) (length (rest ++ under ∷ top ∷ []) - 2) 0 ≡ under
under_is rest under top = grind (arith, common_steps)

top_is : (rest : List ℕ) (under top : ℕ) → get_or (rest ++ under ∷ top ∷ []) (length (rest ++ under ∷ top ∷ []) - 1) 0 ≡ top
top_is rest under top = grind (arith, common_steps)

written_is : (seen : Surroundings) (it : Instruction) (rest : List ℕ) (under top : ℕ) → written seen it (rest ++ under ∷ top ∷ []) ≡ written_by seen it under top
written_is seen it rest under top = rw (two_long rest under top, under_is rest under top, top_is rest under top) refl

-- ---- an instruction that writes nothing

nothing : (b : Bool) (after m : AppState) → after.memory ≡ m.memory → after.memory ≡ with_written (if b then None else None) m.memory
nothing true after m same = same
nothing false after m same = same

computed : (result : Option ℕ) (next : ℕ) (m after : AppState) → goes after ≡ outcome_of_result result next m → after.memory ≡ m.memory
computed None next m after is = absurd (no_trap after _ is)
computed (Some value) next m after is = same_memory after _ is

-- ---- an instruction that writes

room_there : (address : ℕ) (bytes : List ℕ) → address + length bytes ≤ MEMORY_LENGTH → nat_le (address + length bytes) MEMORY_LENGTH ≡ true
room_there address bytes fits = grind (arith, fits)

fits_there : (address : ℕ) (bytes : List ℕ) → address + length bytes ≤ MEMORY_LENGTH → at_address address (if_room address bytes) ≡ Some (address, bytes)
fits_there address bytes fits = ap (λ (b : Bool). at_address address (if b then Some bytes else None)) (room_there address bytes fits)

copies : (secret : Option Secret) (next address : ℕ) (m after : AppState) → DoesCopy secret next address m (goes after)
    → after.memory ≡ with_written (at_address address (value_if_room address secret)) m.memory
copies None next address m after is = same_memory after _ is
copies (Some secret) next address m after (inl (long, is)) = absurd (no_trap after _ is)
copies (Some secret) next address m after (inr (fits, is)) =
    same_memory after _ is ∙ sym (ap (λ (w : Option (ℕ × List ℕ)). with_written w m.memory) (fits_there address secret.value fits))

gets : (secrets : Option (List Secret)) (name : List ℕ) (next address : ℕ) (m after : AppState) → DoesGet secrets name next address m (goes after)
    → after.memory ≡ with_written (at_address address (copied address name secrets)) m.memory
gets None name next address m after is = absurd (no_trap after _ is)
gets (Some secrets) name next address m after did = copies (find (has_name name) secrets) next address m after did

-- ---- instructions

plain_true : (seen : Surroundings) (kind : Plain) (next : ℕ) (rest values : List ℕ) (m after : AppState) → DoesPlain seen.input kind next values (record m { stack = rest }) (goes after)
    → after.memory ≡ with_written (written seen (instruction.Plain kind) (rest ++ values)) m.memory
plain_true seen plain.Halt next rest [] m after did = absurd (no_halt after did)
plain_true seen plain.Halt next rest (a ∷ more) m after did = absurd did
plain_true seen plain.Pop next rest [] m after did = absurd did
plain_true seen plain.Pop next rest (a ∷ []) m after did = nothing _ after m (same_memory after _ did)
plain_true seen plain.Pop next rest (a ∷ b ∷ more) m after did = absurd did
plain_true seen plain.Dup next rest [] m after did = absurd did
plain_true seen plain.Dup next rest (a ∷ []) m after did = nothing _ after m (same_memory after _ did)
plain_true seen plain.Dup next rest (a ∷ b ∷ more) m after did = absurd did
plain_true seen plain.Swap next rest [] m after did = absurd did
plain_true seen plain.Swap next rest (a ∷ []) m after did = absurd did
plain_true seen plain.Swap next rest (a ∷ b ∷ []) m after did = nothing _ after m (same_memory after _ did)
plain_true seen plain.Swap next rest (a ∷ b ∷ c ∷ more) m after did = absurd did
plain_true seen plain.Over next rest [] m after did = absurd did
plain_true seen plain.Over next rest (a ∷ []) m after did = absurd did
plain_true seen plain.Over next rest (a ∷ b ∷ []) m after did = nothing _ after m (same_memory after _ did)
plain_true seen plain.Over next rest (a ∷ b ∷ c ∷ more) m after did = absurd did
plain_true seen (plain.Compute operation) next rest [] m after did = absurd did
plain_true seen (plain.Compute operation) next rest (a ∷ []) m after did = absurd did
plain_true seen (plain.Compute operation) next rest (a ∷ b ∷ []) m after did = nothing _ after m (computed (result_of operation a b) next _ after did)
plain_true seen (plain.Compute operation) next rest (a ∷ b ∷ c ∷ more) m after did = absurd did
plain_true seen plain.Return next rest [] m after (inl (none, is)) = absurd (no_trap after _ is)
plain_true seen plain.Return next rest [] m after (inr (others, last, split, is)) = nothing _ after m (same_memory after _ is)
plain_true seen plain.Return next rest (a ∷ more) m after did = absurd did
plain_true seen plain.Load next rest [] m after did = absurd did
plain_true seen plain.Load next rest (a ∷ []) m after (inl (bad, is)) = absurd (no_trap after _ is)
plain_true seen plain.Load next rest (a ∷ []) m after (inr (good, is)) = nothing _ after m (same_memory after _ is)
plain_true seen plain.Load next rest (a ∷ b ∷ more) m after did = absurd did
plain_true seen plain.Emit next rest [] m after did = absurd did
plain_true seen plain.Emit next rest (a ∷ []) m after (inl (bad, is)) = absurd (no_trap after _ is)
plain_true seen plain.Emit next rest (a ∷ []) m after (inr (good, is)) = nothing _ after m (same_memory after _ is)
plain_true seen plain.Emit next rest (a ∷ b ∷ more) m after did = absurd did
plain_true seen plain.Store next rest [] m after did = absurd did
plain_true seen plain.Store next rest (a ∷ []) m after did = absurd did
plain_true seen plain.Store next rest (a ∷ b ∷ []) m after (inl (bad, is)) = absurd (no_trap after _ is)
plain_true seen plain.Store next rest (a ∷ b ∷ []) m after (inr (within, is)) =
    let fits : b + length (a % 256 ∷ []) ≤ MEMORY_LENGTH = omega (arith, within) in
    same_memory after _ is
    ∙ sym (ap (λ (w : Option (ℕ × List ℕ)). with_written w m.memory) (written_is seen (instruction.Plain plain.Store) rest a b ∙ fits_there b (a % 256 ∷ []) fits))
plain_true seen plain.Store next rest (a ∷ b ∷ c ∷ more) m after did = absurd did
plain_true seen plain.Input next rest [] m after did = absurd did
plain_true seen plain.Input next rest (a ∷ []) m after did = nothing _ after m (same_memory after _ did)
plain_true seen plain.Input next rest (a ∷ b ∷ more) m after did = absurd did
plain_true seen plain.Length next rest [] m after did = nothing _ after m (same_memory after _ did)
plain_true seen plain.Length next rest (a ∷ more) m after did = absurd did

does_true : (seen : Surroundings) (it : Instruction) (next : ℕ) (rest values : List ℕ) (m after : AppState) → Does seen it next values (record m { stack = rest }) (goes after)
    → after.memory ≡ with_written (written seen it (rest ++ values)) m.memory
does_true seen (instruction.Plain kind) next rest values m after did = plain_true seen kind next rest values m after did
does_true seen (instruction.Push number) next rest [] m after did = nothing _ after m (same_memory after _ did)
does_true seen (instruction.Push number) next rest (a ∷ more) m after did = absurd did
does_true seen (instruction.Jump to) next rest [] m after did = nothing _ after m (same_memory after _ did)
does_true seen (instruction.Jump to) next rest (a ∷ more) m after did = absurd did
does_true seen (instruction.JumpZero to) next rest [] m after did = absurd did
does_true seen (instruction.JumpZero to) next rest (a ∷ []) m after did = nothing _ after m (same_memory after _ did)
does_true seen (instruction.JumpZero to) next rest (a ∷ b ∷ more) m after did = absurd did
does_true seen (instruction.Call to) next rest [] m after (inl (full, is)) = absurd (no_trap after _ is)
does_true seen (instruction.Call to) next rest [] m after (inr (room, is)) = nothing _ after m (same_memory after _ is)
does_true seen (instruction.Call to) next rest (a ∷ more) m after did = absurd did
does_true seen (instruction.Get name) next rest [] m after did = absurd did
does_true seen (instruction.Get name) next rest (a ∷ []) m after did = absurd did
does_true seen (instruction.Get name) next rest (a ∷ b ∷ []) m after did =
    gets (seen.secrets b) name next a (record m { stack = rest }) after did
    ∙ sym (ap (λ (w : Option (ℕ × List ℕ)). with_written w m.memory) (written_is seen (instruction.Get name) rest a b))
does_true seen (instruction.Get name) next rest (a ∷ b ∷ c ∷ more) m after did = absurd did

pub traces_are_true : TracesAreTrue
traces_are_true seen machine after it next stands (unknown none is) = absurd (no_trap after _ is)
traces_are_true seen machine after it next stands (lacks_operands other later there few is) = absurd (no_trap after _ is)
traces_are_true seen machine after it next stands (overflows other later there enough many is) = absurd (no_trap after _ is)
traces_are_true seen machine after it next stands (does other later there rest values split enough room did) =
    let same : it ≡ other = (one_instruction_anywhere seen.code machine.place it other next later stands there).0 in
    subst (λ (j : Instruction). after.memory ≡ with_written (written seen j machine.stack) machine.memory) (sym same)
    (subst (λ (s : List ℕ). after.memory ≡ with_written (written seen other s) machine.memory) (sym split) (does_true seen other later rest values machine after did))
