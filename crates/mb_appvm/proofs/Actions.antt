-- What acting comes to where no value is taken, and how a step follows from what its instruction does.
use Rattle.std.proofs.Common.{◌≡◌, ℕ, ◌+◌, ◌<◌, ◌≤◌, inl, inr, List, [], ◌∷◌, ◌++◌, length, refl, sym, ap, subst, ◌∙◌, arith, append-nil, length-append}
use Rattle.arrayvec.specs.ArrayVec.{ArrayVec}
use Rattle.mb_model.specs.declared.instruction.Instruction.{Instruction}
use Rattle.mb_model.specs.declared.instruction.Instruction.TheVariants as instruction
use Rattle.mb_model.specs.declared.instruction.Plain.TheVariants as plain
use Rattle.mb_appvm.specs.declared.machine.Machine.{Machine}
use Rattle.mb_appvm.specs.declared.machine.Step.{Step}
use Rattle.mb_appvm.specs.declared.machine.Step.TheVariants as step
use Rattle.mb_model.specs.declared.trap.Trap.TheVariants as trap
use Rattle.mb_model.specs.application.Instructions.{Stands}
use Rattle.mb_model.specs.application.Application.{Surroundings, goes, takes, leaves, does, lacks_operands, overflows}
use Rattle.mb_appvm.specs.Acting.{state_of, DoesStep, DoesOn, DoesPlainOn}

-- no value is taken and none is left
same_stack : (old : Machine) (place : ℕ) (returns : List ℕ)
    → goes (record (state_of old) { place = place; returns = returns }) ≡ goes (record (state_of old) { place = place; returns = returns; stack = old.stack.items ++ [] })
same_stack old place returns =
    ap (λ (s : List ℕ). goes (record (state_of old) { place = place; returns = returns; stack = s })) (sym (append-nil old.stack.items))

pub halts : (input : List ℕ) (next : ℕ) (old : Machine) → DoesPlainOn input plain.Halt next old step.Ends old
halts input next old = record { rest = old.stack.items; values = []; split = sym (append-nil old.stack.items); enough = refl; does = refl; kept = refl }

pub jumps : (s : Surroundings) (to next : ℕ) (old new : Machine) (result : Step) → result ≡ step.GoesOn → new ≡ record old { place = to }
    → DoesOn s (instruction.Jump to) next old result new
jumps s to next old new result goes_on is =
    subst (λ (r : Step). DoesOn s (instruction.Jump to) next old r new) (sym goes_on)
    (subst (λ (m : Machine). DoesOn s (instruction.Jump to) next old step.GoesOn m) (sym is)
    (record { rest = old.stack.items; values = []; split = sym (append-nil old.stack.items); enough = refl; does = same_stack old to old.returns.items; kept = tt }))

pub calls_no_more : (s : Surroundings) (to next : ℕ) (old : Machine) → 64 ≤ length old.returns.items
    → DoesOn s (instruction.Call to) next old (step.Traps trap.BadReturn) old
calls_no_more s to next old full =
    record { rest = old.stack.items; values = []; split = sym (append-nil old.stack.items); enough = refl; does = inl (full, refl); kept = refl }

pub calls : (s : Surroundings) (to next : ℕ) (old new : Machine) (returns : ArrayVec ℕ) (result : Step) → length old.returns.items < 64
    → returns.items ≡ old.returns.items ++ next ∷ [] → result ≡ step.GoesOn → new ≡ record old { returns = returns; place = to }
    → DoesOn s (instruction.Call to) next old result new
calls s to next old new returns result room pushed goes_on is =
    subst (λ (r : Step). DoesOn s (instruction.Call to) next old r new) (sym goes_on)
    (subst (λ (m : Machine). DoesOn s (instruction.Call to) next old step.GoesOn m) (sym is)
    (record {
      rest = old.stack.items;
      values = [];
      split = sym (append-nil old.stack.items);
      enough = refl;
      does = inr (room, same_stack old to returns.items ∙ ap (λ (l : List ℕ). goes (record (state_of old) { place = to; returns = l; stack = old.stack.items ++ [] })) pushed);
      kept = tt;
    }))

pub comes_back : (input : List ℕ) (next place : ℕ) (old new : Machine) (returns : ArrayVec ℕ) (result : Step)
    → old.returns.items ≡ returns.items ++ place ∷ [] → result ≡ step.GoesOn → new ≡ record old { returns = returns; place = place }
    → DoesPlainOn input plain.Return next old result new
comes_back input next place old new returns result popped goes_on is =
    subst (λ (r : Step). DoesPlainOn input plain.Return next old r new) (sym goes_on)
    (subst (λ (m : Machine). DoesPlainOn input plain.Return next old step.GoesOn m) (sym is)
    (record {
      rest = old.stack.items;
      values = [];
      split = sym (append-nil old.stack.items);
      enough = refl;
      does = inr (returns.items, place, popped, refl);
      kept = tt;
    }))

empty : (xs : List ℕ) → (0 < length xs → ⊥) → xs ≡ []
empty [] none = refl
empty (x ∷ xs) none = absurd (none (omega arith))

pub stays : (input : List ℕ) (next : ℕ) (old : Machine) (returns : ArrayVec ℕ) → returns ≡ old.returns → (0 < length old.returns.items → ⊥)
    → DoesPlainOn input plain.Return next old (step.Traps trap.BadReturn) (record old { returns = returns })
stays input next old returns same none =
    subst (λ (r : ArrayVec ℕ). DoesPlainOn input plain.Return next old (step.Traps trap.BadReturn) (record old { returns = r })) (sym same)
    (record { rest = old.stack.items; values = []; split = sym (append-nil old.stack.items); enough = refl; does = inl (empty old.returns.items none, refl); kept = refl })

-- from the values of a stack to a step
pub steps_on : (s : Surroundings) (i : Instruction) (next : ℕ) (old new : Machine) (result : Step) → Stands s.code old.place i next
    → length old.stack.items + leaves i ≤ takes i + 256 → DoesOn s i next old result new → DoesStep s old result new
steps_on s i next old new result is room on = record {
  is = does i next is on.rest on.values on.split on.enough (omega (arith, room, ap length on.split, length-append on.rest on.values, on.enough)) on.does;
  kept = on.kept;
}

pub lacks_values : (s : Surroundings) (i : Instruction) (next : ℕ) (old : Machine) → Stands s.code old.place i next → length old.stack.items < takes i
    → DoesStep s old (step.Traps trap.TooFewValues) old
lacks_values s i next old is few = record { is = lacks_operands i next is few refl; kept = refl }

pub lacks_room : (s : Surroundings) (i : Instruction) (next : ℕ) (old : Machine) → Stands s.code old.place i next → takes i ≤ length old.stack.items
    → takes i + 256 < length old.stack.items + leaves i → DoesStep s old (step.Traps trap.TooManyValues) old
lacks_room s i next old is enough many = record { is = overflows i next is enough many refl; kept = refl }
