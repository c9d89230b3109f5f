-- A run ends in one way, whatever stands where it may not read, and whether or not its code is bytes.
use Rattle.std.proofs.Common.{◌≡◌, ℕ, zero, suc, ◌+◌, ◌⊎◌, inl, inr, List, [], ◌∷◌, ◌++◌, length, Option, Some, None, refl, sym, ap, subst, ◌∙◌, arith, length-append}
use Rattle.std.specs.Prelude.{find}
use Rattle.std.proofs.lemmas.List.{same_from_push}
use Rattle.mb_model.specs.declared.region.Secret.{Secret}
use Rattle.mb_model.specs.machine.LayerEvents.{has_name}
use Rattle.mb_model.specs.declared.instruction.Plain.{Plain}
use Rattle.mb_model.specs.declared.instruction.Plain.TheVariants as plain
use Rattle.mb_model.specs.declared.instruction.Instruction.{Instruction}
use Rattle.mb_model.specs.declared.instruction.Instruction.TheVariants as instruction
use Rattle.mb_model.specs.declared.running.AppEnd.{AppEnd}
use Rattle.mb_model.specs.application.Instructions.{Stands}
use Rattle.mb_model.specs.application.Application.{AppState, Surroundings, StepOutcome, goes, run_halts, traps, takes, leaves, DoesCopy, DoesGet, DoesPlain, Does, AppStep, unknown, lacks_operands, overflows, does}
use Rattle.mb_model.specs.application.Runs.{first_state, LeadsOn, RunsTo, readable_secrets, RunsEndOnce, RunsSeeNothingElse}
use Rattle.mb_model_lemmas.proofs.CodeLemmas.{one_instruction_anywhere}

-- ---- what an instruction does is one thing

either_same : {P Q : Type 0} (x y o p : StepOutcome) → (P → Q → ⊥) → (P × (o ≡ x)) ⊎ (Q × (o ≡ y)) → (P × (p ≡ x)) ⊎ (Q × (p ≡ y)) → o ≡ p
either_same x y o p apart (inl a) (inl b) = a.1 ∙ sym b.1
either_same x y o p apart (inl a) (inr b) = absurd (apart a.0 b.0)
either_same x y o p apart (inr a) (inl b) = absurd (apart b.0 a.0)
either_same x y o p apart (inr a) (inr b) = a.1 ∙ sym b.1

pushed_none : (xs : List ℕ) (x : ℕ) → [] ≡ xs ++ x ∷ [] → ⊥
pushed_none xs x e = omega (arith, ap length e, length-append xs (x ∷ []))

plain_same : (input : List ℕ) (i : Plain) (next : ℕ) (values : List ℕ) (m : AppState) (o p : StepOutcome) → DoesPlain input i next values m o → DoesPlain input i next values m p → o ≡ p
plain_same input plain.Halt next [] m o p a b = a ∙ sym b
plain_same input plain.Halt next (x ∷ more) m o p a b = absurd a
plain_same input plain.Pop next [] m o p a b = absurd a
plain_same input plain.Pop next (x ∷ []) m o p a b = a ∙ sym b
plain_same input plain.Pop next (x ∷ y ∷ more) m o p a b = absurd a
plain_same input plain.Dup next [] m o p a b = absurd a
plain_same input plain.Dup next (x ∷ []) m o p a b = a ∙ sym b
plain_same input plain.Dup next (x ∷ y ∷ more) m o p a b = absurd a
plain_same input plain.Swap next [] m o p a b = absurd a
plain_same input plain.Swap next (x ∷ []) m o p a b = absurd a
plain_same input plain.Swap next (x ∷ y ∷ []) m o p a b = a ∙ sym b
plain_same input plain.Swap next (x ∷ y ∷ z ∷ more) m o p a b = absurd a
plain_same input plain.Over next [] m o p a b = absurd a
plain_same input plain.Over next (x ∷ []) m o p a b = absurd a
plain_same input plain.Over next (x ∷ y ∷ []) m o p a b = a ∙ sym b
plain_same input plain.Over next (x ∷ y ∷ z ∷ more) m o p a b = absurd a
plain_same input (plain.Compute operation) next [] m o p a b = absurd a
plain_same input (plain.Compute operation) next (x ∷ []) m o p a b = absurd a
plain_same input (plain.Compute operation) next (x ∷ y ∷ []) m o p a b = a ∙ sym b
plain_same input (plain.Compute operation) next (x ∷ y ∷ z ∷ more) m o p a b = absurd a
plain_same input plain.Return next [] m o p (inl a) (inl b) = a.1 ∙ sym b.1
plain_same input plain.Return next [] m o p (inl a) (inr b) = absurd (pushed_none b.0 b.1 (sym a.0 ∙ b.2))
plain_same input plain.Return next [] m o p (inr a) (inl b) = absurd (pushed_none a.0 a.1 (sym b.0 ∙ a.2))
plain_same input plain.Return next [] m o p (inr a) (inr b) =
    let parts = same_from_push a.0 b.0 a.1 b.1 (sym a.2 ∙ b.2) in
    let others = parts.0 in
    let last = parts.1 in
    a.3 ∙ ap (λ (r : List ℕ). goes (record m { place = a.1; returns = r })) others ∙ ap (λ (k : ℕ). goes (record m { place = k; returns = b.0 })) last ∙ sym b.3
plain_same input plain.Return next (x ∷ more) m o p a b = absurd a
plain_same input plain.Load next [] m o p a b = absurd a
plain_same input plain.Load next (x ∷ []) m o p a b = either_same _ _ o p (λ past within. omega (arith, past, within)) a b
plain_same input plain.Load next (x ∷ y ∷ more) m o p a b = absurd a
plain_same input plain.Store next [] m o p a b = absurd a
plain_same input plain.Store next (x ∷ []) m o p a b = absurd a
plain_same input plain.Store next (x ∷ y ∷ []) m o p a b = either_same _ _ o p (λ past within. omega (arith, past, within)) a b
plain_same input plain.Store next (x ∷ y ∷ z ∷ more) m o p a b = absurd a
plain_same input plain.Input next [] m o p a b = absurd a
plain_same input plain.Input next (x ∷ []) m o p a b = a ∙ sym b
plain_same input plain.Input next (x ∷ y ∷ more) m o p a b = absurd a
plain_same input plain.Length next [] m o p a b = a ∙ sym b
plain_same input plain.Length next (x ∷ more) m o p a b = absurd a
plain_same input plain.Emit next [] m o p a b = absurd a
plain_same input plain.Emit next (x ∷ []) m o p a b = either_same _ _ o p (λ full room. omega (arith, full, room)) a b
plain_same input plain.Emit next (x ∷ y ∷ more) m o p a b = absurd a

copy_same : (secret : Option Secret) (next address : ℕ) (m : AppState) (o p : StepOutcome) → DoesCopy secret next address m o → DoesCopy secret next address m p → o ≡ p
copy_same None next address m o p a b = a ∙ sym b
copy_same (Some secret) next address m o p a b = either_same _ _ o p (λ past within. omega (arith, past, within)) a b

get_same : (secrets : Option (List Secret)) (name : List ℕ) (next address : ℕ) (m : AppState) (o p : StepOutcome) → DoesGet secrets name next address m o → DoesGet secrets name next address m p → o ≡ p
get_same None name next address m o p a b = a ∙ sym b
get_same (Some secrets) name next address m o p a b = copy_same (find (has_name name) secrets) next address m o p a b

-- what two runs see: the same but for two ways to give the same secrets
abbrev with_secrets : List ℕ → List ℕ → (ℕ → Option (List Secret)) → Surroundings
with_secrets code input secrets = record { code = code; input = input; secrets = secrets }

abbrev Same : (ℕ → Option (List Secret)) → (ℕ → Option (List Secret)) → Type 0
Same f g = (region : ℕ) → f region ≡ g region

does_same : (code input : List ℕ) (f g : ℕ → Option (List Secret)) → Same f g → (i : Instruction) (next : ℕ) (values : List ℕ) (m : AppState) (o p : StepOutcome)
    → Does (with_secrets code input f) i next values m o → Does (with_secrets code input g) i next values m p → o ≡ p
does_same code input f g same (instruction.Plain i) next values m o p a b = plain_same input i next values m o p a b
does_same code input f g same (instruction.Push n) next [] m o p a b = a ∙ sym b
does_same code input f g same (instruction.Push n) next (x ∷ more) m o p a b = absurd a
does_same code input f g same (instruction.Jump to) next [] m o p a b = a ∙ sym b
does_same code input f g same (instruction.Jump to) next (x ∷ more) m o p a b = absurd a
does_same code input f g same (instruction.JumpZero to) next [] m o p a b = absurd a
does_same code input f g same (instruction.JumpZero to) next (x ∷ []) m o p a b = a ∙ sym b
does_same code input f g same (instruction.JumpZero to) next (x ∷ y ∷ more) m o p a b = absurd a
does_same code input f g same (instruction.Call to) next [] m o p a b = either_same _ _ o p (λ full room. omega (arith, full, room)) a b
does_same code input f g same (instruction.Call to) next (x ∷ more) m o p a b = absurd a
does_same code input f g same (instruction.Get name) next [] m o p a b = absurd a
does_same code input f g same (instruction.Get name) next (x ∷ []) m o p a b = absurd a
does_same code input f g same (instruction.Get name) next (x ∷ y ∷ []) m o p a b = get_same (g y) name next x m o p (subst (λ (r : Option (List Secret)). DoesGet r name next x m o) (same y) a) b
does_same code input f g same (instruction.Get name) next (x ∷ y ∷ z ∷ more) m o p a b = absurd a

-- ---- a step leads to one outcome

last_values : (a b x y : List ℕ) → a ++ x ≡ b ++ y → length x ≡ length y → (a ≡ b) × (x ≡ y)
last_values [] [] x y e long = (refl, e)
last_values [] (k ∷ b) x y e long = absurd (omega (arith, long, ap length e, length-append b y))
last_values (k ∷ a) [] x y e long = absurd (omega (arith, long, ap length e, length-append a x))
last_values (k ∷ a) (l ∷ b) x y e long =
    let tail : a ++ x ≡ b ++ y = cc in
    let head : k ≡ l = cc in
    let parts = last_values a b x y tail long in
    let front = parts.0 in
    (cc, parts.1)

does_one : (code input : List ℕ) (f g : ℕ → Option (List Secret)) (m : AppState) (o p : StepOutcome) → Same f g → (i j : Instruction) (next later : ℕ) (rest others values more : List ℕ)
    → (i ≡ j) × (next ≡ later) → m.stack ≡ rest ++ values → m.stack ≡ others ++ more → length values ≡ takes i → length more ≡ takes j
    → Does (with_secrets code input f) i next values (record m { stack = rest }) o → Does (with_secrets code input g) j later more (record m { stack = others }) p → o ≡ p
does_one code input f g m o p same i j next later rest others values more is es et la lb a b =
    let long = ap takes is.0 in
    let parts = last_values rest others values more (sym es ∙ et) (la ∙ long ∙ sym lb) in
    let first = subst (λ (k : Instruction). Does (with_secrets code input f) k next values (record m { stack = rest }) o) is.0 a in
    let second = subst (λ (n : ℕ). Does (with_secrets code input f) j n values (record m { stack = rest }) o) is.1 first in
    let third = subst (λ (v : List ℕ). Does (with_secrets code input f) j later v (record m { stack = rest }) o) parts.1 second in
    does_same code input f g same j later more (record m { stack = others }) o p
    (subst (λ (r : List ℕ). Does (with_secrets code input f) j later more (record m { stack = r }) o) parts.0 third) b

step_same : (code input : List ℕ) (f g : ℕ → Option (List Secret)) (m : AppState) (o p : StepOutcome) → Same f g
    → AppStep (with_secrets code input f) m o → AppStep (with_secrets code input g) m p → o ≡ p
step_same code input f g m o p same (unknown none a) (unknown other b) = a ∙ sym b
step_same code input f g m o p same (unknown none a) (lacks_operands j later there few b) = absurd (none j later there)
step_same code input f g m o p same (unknown none a) (overflows j later there enough many b) = absurd (none j later there)
step_same code input f g m o p same (unknown none a) (does j later there others more split enough room b) = absurd (none j later there)
step_same code input f g m o p same (lacks_operands i next stands few a) (unknown none b) = absurd (none i next stands)
step_same code input f g m o p same (lacks_operands i next stands few a) (lacks_operands j later there fewer b) = a ∙ sym b
step_same code input f g m o p same (lacks_operands i next stands few a) (overflows j later there enough many b) =
    absurd (omega (arith, few, enough, ap takes (one_instruction_anywhere code m.place i j next later stands there).0))
step_same code input f g m o p same (lacks_operands i next stands few a) (does j later there others more split enough room b) =
    absurd (omega (arith, few, enough, ap takes (one_instruction_anywhere code m.place i j next later stands there).0, ap length split, length-append others more))
step_same code input f g m o p same (overflows i next stands enough many a) (unknown none b) = absurd (none i next stands)
step_same code input f g m o p same (overflows i next stands enough many a) (lacks_operands j later there few b) =
    absurd (omega (arith, few, enough, ap takes (one_instruction_anywhere code m.place i j next later stands there).0))
step_same code input f g m o p same (overflows i next stands enough many a) (overflows j later there other more b) = a ∙ sym b
step_same code input f g m o p same (overflows i next stands enough many a) (does j later there others more split all room b) =
    let is = (one_instruction_anywhere code m.place i j next later stands there).0 in
    absurd (omega (arith, many, all, room, ap takes is, ap leaves is, ap length split, length-append others more))
step_same code input f g m o p same (does i next stands rest values split enough room a) (unknown none b) = absurd (none i next stands)
step_same code input f g m o p same (does i next stands rest values split enough room a) (lacks_operands j later there few b) =
    absurd (omega (arith, few, enough, ap takes (one_instruction_anywhere code m.place i j next later stands there).0, ap length split, length-append rest values))
step_same code input f g m o p same (does i next stands rest values split enough room a) (overflows j later there all many b) =
    let is = (one_instruction_anywhere code m.place i j next later stands there).0 in
    absurd (omega (arith, many, enough, room, ap takes is, ap leaves is, ap length split, length-append rest values))
step_same code input f g m o p same (does i next stands rest values split enough room a) (does j later there others more other all space b) =
    does_one code input f g m o p same i j next later rest others values more (one_instruction_anywhere code m.place i j next later stands there) split other enough all a b

-- ---- a run comes to one end

leads_same : (GoesOn Other : AppState → Type 0) (m : AppState) (o : StepOutcome) (steps : ℕ) (a b : AppEnd) → ((next : AppState) → GoesOn next → Other next → a ≡ b)
    → LeadsOn GoesOn m o steps a → LeadsOn Other m o steps b → a ≡ b
leads_same GoesOn Other m (goes next) steps a b on la lb = on next la lb
leads_same GoesOn Other m run_halts steps a b on la lb = la ∙ sym lb
leads_same GoesOn Other m (traps cause) steps a b on la lb = la ∙ sym lb

run_same : (code input : List ℕ) (f g : ℕ → Option (List Secret)) → Same f g → (m : AppState) (steps more : ℕ) (a b : AppEnd)
    → RunsTo (with_secrets code input f) m steps more a → RunsTo (with_secrets code input g) m steps more b → a ≡ b
unfolding RunsTo
run_same code input f g same m steps zero a b ra rb = ra ∙ sym rb
run_same code input f g same m steps (suc more) a b ra rb =
    let outcome = step_same code input f g m ra.0 rb.0 same ra.1 rb.1 in
    let on = λ (next : AppState). RunsTo (with_secrets code input f) next (steps + 1) more a in
    let other = λ (next : AppState). RunsTo (with_secrets code input g) next (steps + 1) more b in
    leads_same on other m rb.0 (steps + 1) a b
    (λ next xa xb. run_same code input f g same next (steps + 1) more a b xa xb)
    (subst (λ (o : StepOutcome). LeadsOn on m o (steps + 1) a) outcome ra.2) rb.2

pub runs_end_once : RunsEndOnce
runs_end_once code input secrets steps a b ra rb = run_same code input secrets secrets (λ region. refl) first_state 0 steps a b ra rb

pub runs_see_nothing_else : RunsSeeNothingElse
runs_see_nothing_else layers layer two three other_two other_three code input steps a b same ra rb =
    run_same code input (readable_secrets layers layer two three) (readable_secrets layers layer other_two other_three) same first_state 0 steps a b ra rb
