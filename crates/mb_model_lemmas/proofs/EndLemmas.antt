-- Each run of a code has an end: that there is none is absurd.
use Rattle.std.proofs.Common.{◌≡◌, ℕ, zero, suc, ◌+◌, ◌<◌, ◌≤◌, ◌⊎◌, inl, inr, List, [], ◌∷◌, ◌++◌, length, Option, Some, None, refl, sym, ap, subst, ◌∙◌, arith, length-append}
use Rattle.std.specs.Prelude.{find}
use Rattle.std.proofs.lemmas.Bool.{cases_lt}
use Rattle.mb_model.specs.declared.region.Secret.{Secret}
use Rattle.mb_model.specs.machine.LayerEvents.{has_name}
use Rattle.mb_model.specs.declared.instruction.Plain.{Plain}
use Rattle.mb_model.specs.declared.instruction.Plain.TheVariants as plain
use Rattle.mb_model.specs.declared.instruction.Instruction.{Instruction}
use Rattle.mb_model.specs.declared.instruction.Instruction.TheVariants as instruction
use Rattle.mb_model.specs.declared.running.AppEnd.{AppEnd}
use Rattle.mb_model.specs.declared.running.AppEnd.TheVariants as end
use Rattle.mb_model.specs.declared.trap.Trap.TheVariants as trap
use Rattle.mb_model.specs.application.Instructions.{Stands}
use Rattle.mb_model.specs.application.Application.{AppState, Surroundings, StepOutcome, goes, run_halts, traps, plain_takes, takes, leaves, DoesCopy, DoesGet, DoesPlain, Does, AppStep, unknown, lacks_operands, overflows, does}
use Rattle.mb_model.specs.application.Runs.{first_state, LeadsOn, RunsTo, AppRun}

-- ---- lists

-- a list is empty or has a last item
last_or_none : (xs : List ℕ) → (xs ≡ []) ⊎ ((others : List ℕ) × (last : ℕ) × (xs ≡ others ++ last ∷ []))
last_or_none [] = inl refl
last_or_none (x ∷ xs) = elim (last_or_none xs) [
  | inl none ↦ inr ([], x, ap (λ (t : List ℕ). x ∷ t) none)
  | inr (others, last, is) ↦ inr (x ∷ others, last, ap (λ (t : List ℕ). x ∷ t) is)
]

-- the last n items of a list that has as many
record HasLast (xs : List ℕ) (n : ℕ) : Type 0 where
  rest : List ℕ
  values : List ℕ
  split : xs ≡ rest ++ values
  enough : length values ≡ n

last_of_list : (xs : List ℕ) (n : ℕ) → n ≤ length xs → HasLast xs n
last_of_list [] n few = record { rest = []; values = []; split = refl; enough = omega (arith, few) }
last_of_list (x ∷ xs) n few = elim (cases_lt (length xs) n) [
  | inl all ↦ record { rest = []; values = x ∷ xs; split = refl; enough = omega (arith, few, all) }
  | inr enough ↦
      let inner = last_of_list xs n enough in
      record { rest = x ∷ inner.rest; values = inner.values; split = ap (λ (t : List ℕ). x ∷ t) inner.split; enough = inner.enough }
]

-- ---- each instruction does something with the values that it takes

either_some : {P Q : Type 0} (x y : StepOutcome) → P ⊎ Q → (o : StepOutcome) × ((P × (o ≡ x)) ⊎ (Q × (o ≡ y)))
either_some x y (inl p) = (x, inl (p, refl))
either_some x y (inr q) = (y, inr (q, refl))

swapped : {P Q : Type 0} → P ⊎ Q → Q ⊎ P
swapped (inl p) = inr p
swapped (inr q) = inl q

plain_some : (input : List ℕ) (i : Plain) (next : ℕ) (values : List ℕ) (m : AppState) → length values ≡ plain_takes i → (o : StepOutcome) × DoesPlain input i next values m o
plain_some input plain.Halt next [] m e = (_, refl)
plain_some input plain.Halt next (x ∷ more) m e = absurd (omega (arith, e))
plain_some input plain.Pop next [] m e = absurd (omega (arith, e))
plain_some input plain.Pop next (x ∷ []) m e = (_, refl)
plain_some input plain.Pop next (x ∷ y ∷ more) m e = absurd (omega (arith, e))
plain_some input plain.Dup next [] m e = absurd (omega (arith, e))
plain_some input plain.Dup next (x ∷ []) m e = (_, refl)
plain_some input plain.Dup next (x ∷ y ∷ more) m e = absurd (omega (arith, e))
plain_some input plain.Swap next [] m e = absurd (omega (arith, e))
plain_some input plain.Swap next (x ∷ []) m e = absurd (omega (arith, e))
plain_some input plain.Swap next (x ∷ y ∷ []) m e = (_, refl)
plain_some input plain.Swap next (x ∷ y ∷ z ∷ more) m e = absurd (omega (arith, e))
plain_some input plain.Over next [] m e = absurd (omega (arith, e))
plain_some input plain.Over next (x ∷ []) m e = absurd (omega (arith, e))
plain_some input plain.Over next (x ∷ y ∷ []) m e = (_, refl)
plain_some input plain.Over next (x ∷ y ∷ z ∷ more) m e = absurd (omega (arith, e))
plain_some input (plain.Compute operation) next [] m e = absurd (omega (arith, e))
plain_some input (plain.Compute operation) next (x ∷ []) m e = absurd (omega (arith, e))
plain_some input (plain.Compute operation) next (x ∷ y ∷ []) m e = (_, refl)
plain_some input (plain.Compute operation) next (x ∷ y ∷ z ∷ more) m e = absurd (omega (arith, e))
plain_some input plain.Return next [] m e = by (last_or_none m.returns)
  where
    by : (m.returns ≡ []) ⊎ ((others : List ℕ) × (last : ℕ) × (m.returns ≡ others ++ last ∷ [])) → (o : StepOutcome) × DoesPlain input plain.Return next [] m o
    by (inl none) = (traps trap.BadReturn, inl (none, refl))
    by (inr (others, last, is)) = (goes (record m { place = last; returns = others }), inr (others, last, is, refl))
plain_some input plain.Return next (x ∷ more) m e = absurd (omega (arith, e))
plain_some input plain.Load next [] m e = absurd (omega (arith, e))
plain_some input plain.Load next (x ∷ []) m e = either_some _ _ (swapped (cases_lt x 1024))
plain_some input plain.Load next (x ∷ y ∷ more) m e = absurd (omega (arith, e))
plain_some input plain.Store next [] m e = absurd (omega (arith, e))
plain_some input plain.Store next (x ∷ []) m e = absurd (omega (arith, e))
plain_some input plain.Store next (x ∷ y ∷ []) m e = either_some _ _ (swapped (cases_lt y 1024))
plain_some input plain.Store next (x ∷ y ∷ z ∷ more) m e = absurd (omega (arith, e))
plain_some input plain.Input next [] m e = absurd (omega (arith, e))
plain_some input plain.Input next (x ∷ []) m e = (_, refl)
plain_some input plain.Input next (x ∷ y ∷ more) m e = absurd (omega (arith, e))
plain_some input plain.Length next [] m e = (_, refl)
plain_some input plain.Length next (x ∷ more) m e = absurd (omega (arith, e))
plain_some input plain.Emit next [] m e = absurd (omega (arith, e))
plain_some input plain.Emit next (x ∷ []) m e = either_some _ _ (swapped (cases_lt (length m.output) 4096))
plain_some input plain.Emit next (x ∷ y ∷ more) m e = absurd (omega (arith, e))

copy_some : (secret : Option Secret) (next address : ℕ) (m : AppState) → (o : StepOutcome) × DoesCopy secret next address m o
copy_some None next address m = (_, refl)
copy_some (Some secret) next address m = either_some _ _ (cases_lt 1024 (address + length secret.value))

get_some : (secrets : Option (List Secret)) (name : List ℕ) (next address : ℕ) (m : AppState) → (o : StepOutcome) × DoesGet secrets name next address m o
get_some None name next address m = (_, refl)
get_some (Some secrets) name next address m = copy_some (find (has_name name) secrets) next address m

does_some : (seen : Surroundings) (i : Instruction) (next : ℕ) (values : List ℕ) (m : AppState) → length values ≡ takes i → (o : StepOutcome) × Does seen i next values m o
does_some seen (instruction.Plain i) next values m e = plain_some seen.input i next values m e
does_some seen (instruction.Push n) next [] m e = (_, refl)
does_some seen (instruction.Push n) next (x ∷ more) m e = absurd (omega (arith, e))
does_some seen (instruction.Jump to) next [] m e = (_, refl)
does_some seen (instruction.Jump to) next (x ∷ more) m e = absurd (omega (arith, e))
does_some seen (instruction.JumpZero to) next [] m e = absurd (omega (arith, e))
does_some seen (instruction.JumpZero to) next (x ∷ []) m e = (_, refl)
does_some seen (instruction.JumpZero to) next (x ∷ y ∷ more) m e = absurd (omega (arith, e))
does_some seen (instruction.Call to) next [] m e = either_some _ _ (swapped (cases_lt (length m.returns) 64))
does_some seen (instruction.Call to) next (x ∷ more) m e = absurd (omega (arith, e))
does_some seen (instruction.Get name) next [] m e = absurd (omega (arith, e))
does_some seen (instruction.Get name) next (x ∷ []) m e = absurd (omega (arith, e))
does_some seen (instruction.Get name) next (x ∷ y ∷ []) m e = get_some (seen.secrets y) name next x m
does_some seen (instruction.Get name) next (x ∷ y ∷ z ∷ more) m e = absurd (omega (arith, e))

-- ---- each step has an outcome

stands_some : (seen : Surroundings) (m : AppState) (it : Instruction) (next : ℕ) → Stands seen.code m.place it next → (o : StepOutcome) × AppStep seen m o
stands_some seen m it next stands = elim (cases_lt (length m.stack) (takes it)) [
  | inl few ↦ (traps trap.TooFewValues, lacks_operands it next stands few refl)
  | inr enough ↦ elim (cases_lt (takes it + 256) (length m.stack + leaves it)) [
    | inl many ↦ (traps trap.TooManyValues, overflows it next stands enough many refl)
    | inr room ↦
        let last = last_of_list m.stack (takes it) enough in
        let done = does_some seen it next last.values (record m { stack = last.rest }) last.enough in
        (done.0, does it next stands last.rest last.values last.split last.enough (omega (arith, room, ap length last.split, length-append last.rest last.values, last.enough)) done.1)
  ]
]

step_some : (seen : Surroundings) (m : AppState) → ((o : StepOutcome) → AppStep seen m o → ⊥) → ⊥
step_some seen m none =
    none (traps trap.NoInstruction) (unknown (λ it next stands. let some = stands_some seen m it next stands in none some.0 some.1) refl)

leads_some : (seen : Surroundings) (m : AppState) (now more : ℕ) (o : StepOutcome) → AppStep seen m o
    → ((next : AppState) → ((e : AppEnd) → RunsTo seen next (now + 1) more e → ⊥) → ⊥) → ((e : AppEnd) → RunsTo seen m now (suc more) e → ⊥) → ⊥
unfolding RunsTo
leads_some seen m now more (goes next) step later none = later next (λ e run. none e (goes next, step, run))
leads_some seen m now more run_halts step later none = none (end.Halted (now + 1) m.output) (run_halts, step, refl)
leads_some seen m now more (traps cause) step later none = none (end.Trap cause m.place m.output) (traps cause, step, refl)

runs_some : (seen : Surroundings) (more : ℕ) (m : AppState) (now : ℕ) → ((e : AppEnd) → RunsTo seen m now more e → ⊥) → ⊥
unfolding RunsTo
runs_some seen zero m now none = none (end.OutOfSteps m.output) refl
runs_some seen (suc more) m now none =
    step_some seen m (λ o step. leads_some seen m now more o step (λ next. runs_some seen more next (now + 1)) none)

pub each_run_ends : (code input : List ℕ) (secrets : ℕ → Option (List Secret)) (steps : ℕ) → ((e : AppEnd) → AppRun code input secrets steps e → ⊥) → ⊥
each_run_ends code input secrets steps none = runs_some (record { code = code; input = input; secrets = secrets }) steps first_state 0 none
