-- What code emits is bytes.
use Rattle.std.proofs.Common.{◌≡◌, ℕ, zero, suc, ◌+◌, ◌%◌, ◌<◌, ◌⊎◌, inl, inr, List, [], ◌∷◌, ◌++◌, length, Option, Some, None, refl, sym, ap, subst, ◌∙◌, arith}
use Rattle.std.specs.Prelude.{find, get_or}
use Rattle.mb_format.specs.Format.{IsBytes}
use Rattle.mb_model.specs.declared.region.Secret.{Secret}
use Rattle.mb_model.specs.machine.LayerEvents.{has_name}
use Rattle.mb_model.specs.declared.instruction.Plain.{Plain}
use Rattle.mb_model.specs.declared.instruction.Plain.TheVariants as plain
use Rattle.mb_model.specs.declared.instruction.Instruction.{Instruction}
use Rattle.mb_model.specs.declared.instruction.Instruction.TheVariants as instruction
use Rattle.mb_model.specs.declared.running.AppEnd.{AppEnd}
use Rattle.mb_model.specs.declared.running.AppEnd.TheVariants as end
use Rattle.mb_model.specs.application.Application.{AppState, Surroundings, StepOutcome, goes, run_halts, traps, result_of, outcome_of_result, DoesCopy, DoesGet, DoesPlain, Does, AppStep, unknown, lacks_operands, overflows, does}
use Rattle.mb_model.specs.application.Runs.{first_state, LeadsOn, RunsTo, AppRun}

-- the output after an outcome; none if the run is over
output_after : StepOutcome → List ℕ
output_after (goes next) = next.output
output_after run_halts = []
output_after (traps cause) = []

Emits : StepOutcome → Type 0
Emits outcome = IsBytes (output_after outcome)

no_bytes : IsBytes []
no_bytes i = omega arith

one_more : (xs : List ℕ) (x : ℕ) → x < 256 → IsBytes xs → IsBytes (xs ++ x ∷ [])
one_more [] x small are zero = small
one_more [] x small are (suc i) = omega arith
one_more (y ∷ ys) x small are zero = are zero
one_more (y ∷ ys) x small are (suc i) = one_more ys x small (λ j. are (suc j)) i

so : (o p : StepOutcome) → Emits p → o ≡ p → Emits o
unfolding Emits
so o p is same = subst (λ (q : StepOutcome). IsBytes (output_after q)) (sym same) is

result_emits : (r : Option ℕ) (next : ℕ) (m : AppState) → IsBytes m.output → Emits (outcome_of_result r next m)
unfolding Emits output_after
result_emits None next m are = no_bytes
result_emits (Some value) next m are = are

plain_emits : (input : List ℕ) (i : Plain) (next : ℕ) (values : List ℕ) (m : AppState) (o : StepOutcome) → IsBytes m.output → DoesPlain input i next values m o → Emits o
unfolding Emits output_after
plain_emits input plain.Halt next [] m o are a = so o run_halts no_bytes a
plain_emits input plain.Halt next (x ∷ more) m o are a = absurd a
plain_emits input plain.Pop next [] m o are a = absurd a
plain_emits input plain.Pop next (x ∷ []) m o are a = so o _ are a
plain_emits input plain.Pop next (x ∷ y ∷ more) m o are a = absurd a
plain_emits input plain.Dup next [] m o are a = absurd a
plain_emits input plain.Dup next (x ∷ []) m o are a = so o _ are a
plain_emits input plain.Dup next (x ∷ y ∷ more) m o are a = absurd a
plain_emits input plain.Swap next [] m o are a = absurd a
plain_emits input plain.Swap next (x ∷ []) m o are a = absurd a
plain_emits input plain.Swap next (x ∷ y ∷ []) m o are a = so o _ are a
plain_emits input plain.Swap next (x ∷ y ∷ z ∷ more) m o are a = absurd a
plain_emits input plain.Over next [] m o are a = absurd a
plain_emits input plain.Over next (x ∷ []) m o are a = absurd a
plain_emits input plain.Over next (x ∷ y ∷ []) m o are a = so o _ are a
plain_emits input plain.Over next (x ∷ y ∷ z ∷ more) m o are a = absurd a
plain_emits input (plain.Compute operation) next [] m o are a = absurd a
plain_emits input (plain.Compute operation) next (x ∷ []) m o are a = absurd a
plain_emits input (plain.Compute operation) next (x ∷ y ∷ []) m o are a = so o (outcome_of_result (result_of operation x y) next m) (result_emits (result_of operation x y) next m are) a
plain_emits input (plain.Compute operation) next (x ∷ y ∷ z ∷ more) m o are a = absurd a
plain_emits input plain.Return next [] m o are (inl a) = so o _ no_bytes a.1
plain_emits input plain.Return next [] m o are (inr a) = so o _ are a.3
plain_emits input plain.Return next (x ∷ more) m o are a = absurd a
plain_emits input plain.Load next [] m o are a = absurd a
plain_emits input plain.Load next (x ∷ []) m o are (inl a) = so o _ no_bytes a.1
plain_emits input plain.Load next (x ∷ []) m o are (inr a) = so o _ are a.1
plain_emits input plain.Load next (x ∷ y ∷ more) m o are a = absurd a
plain_emits input plain.Store next [] m o are a = absurd a
plain_emits input plain.Store next (x ∷ []) m o are a = absurd a
plain_emits input plain.Store next (x ∷ y ∷ []) m o are (inl a) = so o _ no_bytes a.1
plain_emits input plain.Store next (x ∷ y ∷ []) m o are (inr a) = so o _ are a.1
plain_emits input plain.Store next (x ∷ y ∷ z ∷ more) m o are a = absurd a
plain_emits input plain.Input next [] m o are a = absurd a
plain_emits input plain.Input next (x ∷ []) m o are a = so o _ are a
plain_emits input plain.Input next (x ∷ y ∷ more) m o are a = absurd a
plain_emits input plain.Length next [] m o are a = so o _ are a
plain_emits input plain.Length next (x ∷ more) m o are a = absurd a
plain_emits input plain.Emit next [] m o are a = absurd a
plain_emits input plain.Emit next (x ∷ []) m o are (inl a) = so o _ no_bytes a.1
plain_emits input plain.Emit next (x ∷ []) m o are (inr a) = so o _ (one_more m.output (x % 256) (omega arith) are) a.1
plain_emits input plain.Emit next (x ∷ y ∷ more) m o are a = absurd a

copy_emits : (secret : Option Secret) (next address : ℕ) (m : AppState) (o : StepOutcome) → IsBytes m.output → DoesCopy secret next address m o → Emits o
unfolding Emits output_after
copy_emits None next address m o are a = so o _ are a
copy_emits (Some secret) next address m o are (inl a) = so o _ no_bytes a.1
copy_emits (Some secret) next address m o are (inr a) = so o _ are a.1

get_emits : (secrets : Option (List Secret)) (name : List ℕ) (next address : ℕ) (m : AppState) (o : StepOutcome) → IsBytes m.output → DoesGet secrets name next address m o → Emits o
unfolding Emits output_after
get_emits None name next address m o are a = so o _ no_bytes a
get_emits (Some secrets) name next address m o are a = copy_emits (find (has_name name) secrets) next address m o are a

does_emits : (seen : Surroundings) (i : Instruction) (next : ℕ) (values : List ℕ) (m : AppState) (o : StepOutcome) → IsBytes m.output → Does seen i next values m o → Emits o
unfolding Emits output_after
does_emits seen (instruction.Plain i) next values m o are a = plain_emits seen.input i next values m o are a
does_emits seen (instruction.Push n) next [] m o are a = so o _ are a
does_emits seen (instruction.Push n) next (x ∷ more) m o are a = absurd a
does_emits seen (instruction.Jump to) next [] m o are a = so o _ are a
does_emits seen (instruction.Jump to) next (x ∷ more) m o are a = absurd a
does_emits seen (instruction.JumpZero to) next [] m o are a = absurd a
does_emits seen (instruction.JumpZero to) next (x ∷ []) m o are a = so o _ are a
does_emits seen (instruction.JumpZero to) next (x ∷ y ∷ more) m o are a = absurd a
does_emits seen (instruction.Call to) next [] m o are (inl a) = so o _ no_bytes a.1
does_emits seen (instruction.Call to) next [] m o are (inr a) = so o _ are a.1
does_emits seen (instruction.Call to) next (x ∷ more) m o are a = absurd a
does_emits seen (instruction.Get name) next [] m o are a = absurd a
does_emits seen (instruction.Get name) next (x ∷ []) m o are a = absurd a
does_emits seen (instruction.Get name) next (x ∷ y ∷ []) m o are a = get_emits (seen.secrets y) name next x m o are a
does_emits seen (instruction.Get name) next (x ∷ y ∷ z ∷ more) m o are a = absurd a

step_emits : (seen : Surroundings) (m : AppState) (o : StepOutcome) → IsBytes m.output → AppStep seen m o → Emits o
unfolding Emits output_after
step_emits seen m o are (unknown none a) = so o _ no_bytes a
step_emits seen m o are (lacks_operands it next stands few a) = so o _ no_bytes a
step_emits seen m o are (overflows it next stands enough many a) = so o _ no_bytes a
step_emits seen m o are (does it next stands rest values split enough room a) = does_emits seen it next values (record m { stack = rest }) o are a

halted_same : (j k : ℕ) (s t : List ℕ) → end.Halted j s ≡ end.Halted k t → s ≡ t
halted_same j k s t e = cc

leads_bytes : (GoesOn : AppState → Type 0) (m : AppState) (o : StepOutcome) (now steps : ℕ) (output : List ℕ) → IsBytes m.output → Emits o → ((next : AppState) → IsBytes next.output → GoesOn next → IsBytes output)
    → LeadsOn GoesOn m o now (end.Halted steps output) → IsBytes output
unfolding Emits output_after
leads_bytes GoesOn m (goes next) now steps output are emits on leads = on next emits leads
leads_bytes GoesOn m run_halts now steps output are emits on leads = subst IsBytes (sym (halted_same steps now output m.output leads)) are
leads_bytes GoesOn m (traps cause) now steps output are emits on leads = absurd (grind (arith, leads))

runs_bytes : (seen : Surroundings) (more : ℕ) (m : AppState) (now steps : ℕ) (output : List ℕ) → IsBytes m.output → RunsTo seen m now more (end.Halted steps output) → IsBytes output
unfolding RunsTo
runs_bytes seen zero m now steps output are run = absurd (grind (arith, run))
runs_bytes seen (suc more) m now steps output are run =
    leads_bytes (λ next. RunsTo seen next (now + 1) more (end.Halted steps output)) m run.0 (now + 1) steps output are (step_emits seen m run.0 are run.1)
    (λ next small on. runs_bytes seen more next (now + 1) steps output small on) run.2

pub outputs_are_bytes : (code input : List ℕ) (secrets : ℕ → Option (List Secret)) (most steps : ℕ) (output : List ℕ) → AppRun code input secrets most (end.Halted steps output) → IsBytes output
outputs_are_bytes code input secrets most steps output run = runs_bytes (record { code = code; input = input; secrets = secrets }) most first_state 0 steps output no_bytes run
