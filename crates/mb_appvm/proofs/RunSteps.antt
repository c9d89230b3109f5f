-- How far a run has come.
use Rattle.std.proofs.Common.{◌≡◌, ℕ, zero, suc, ◌+◌, ◌-◌, ◌<◌, refl, sym, subst, arith}
use Rattle.mb_appvm.specs.declared.machine.Machine.{Machine}
use Rattle.mb_appvm.specs.declared.machine.Step.TheVariants as step
use Rattle.mb_model.specs.declared.trap.Trap.{Trap}
use Rattle.mb_model.specs.declared.running.AppEnd.{AppEnd}
use Rattle.mb_model.specs.declared.running.AppEnd.TheVariants as end
use Rattle.mb_model.specs.application.Application.{AppState, Surroundings, StepOutcome, goes, run_halts, traps, AppStep}
use Rattle.mb_model.specs.application.Runs.{RunsTo, LeadsOn}
use Rattle.mb_appvm.specs.Acting.{state_of, DoesStep}

-- each end to which the rest of the run comes is one of the whole
abbrev pub IsAt : Surroundings → AppState → ℕ → AppState → ℕ → Type 0
IsAt s first steps m done = (e : AppEnd) → RunsTo s m done (steps - done) e → RunsTo s first 0 steps e

one_step : (s : Surroundings) (m : AppState) (done left : ℕ) (o : StepOutcome) (e : AppEnd) → 0 < left → AppStep s m o
    → LeadsOn (λ next. RunsTo s next (done + 1) (left - 1) e) m o (done + 1) e → RunsTo s m done left e
unfolding RunsTo
one_step s m done zero o e some is on = absurd (omega (arith, some))
one_step s m done (suc left) o e some is on =
    let less : suc left - 1 ≡ left = omega arith in
    (o, is, subst (λ (n : ℕ). LeadsOn (λ next. RunsTo s next (done + 1) n e) m o (done + 1) e) less on)

pub goes_on : (s : Surroundings) (first : AppState) (steps done : ℕ) (old new : Machine) → done < steps → IsAt s first steps (state_of old) done
    → DoesStep s old step.GoesOn new → IsAt s first steps (state_of new) (done + 1)
goes_on s first steps done old new some at did = λ e on.
    let less : steps - done - 1 ≡ steps - (done + 1) = omega arith in
    at e (one_step s (state_of old) done (steps - done) (goes (state_of new)) e (omega (arith, some)) did.is
    (subst (λ (n : ℕ). RunsTo s (state_of new) (done + 1) n e) (sym less) on))

pub halts : (s : Surroundings) (first : AppState) (steps done : ℕ) (old new : Machine) → done < steps → IsAt s first steps (state_of old) done
    → DoesStep s old step.Ends new → RunsTo s first 0 steps (end.Halted (done + 1) new.output.items)
halts s first steps done old new some at did =
    subst (λ (m : AppState). RunsTo s first 0 steps (end.Halted (done + 1) m.output)) (sym did.kept)
    (at _ (one_step s (state_of old) done (steps - done) run_halts _ (omega (arith, some)) did.is refl))

pub traps_here : (s : Surroundings) (first : AppState) (steps done : ℕ) (cause : Trap) (old new : Machine) → done < steps → IsAt s first steps (state_of old) done
    → DoesStep s old (step.Traps cause) new → RunsTo s first 0 steps (end.Trap cause new.place new.output.items)
traps_here s first steps done cause old new some at did =
    subst (λ (m : AppState). RunsTo s first 0 steps (end.Trap cause m.place m.output)) (sym did.kept)
    (at _ (one_step s (state_of old) done (steps - done) (traps cause) _ (omega (arith, some)) did.is refl))

pub runs_out : (s : Surroundings) (first m : AppState) (steps done : ℕ) → done ≡ steps → IsAt s first steps m done
    → RunsTo s first 0 steps (end.OutOfSteps m.output)
unfolding RunsTo
runs_out s first m steps done all at =
    let none : 0 ≡ steps - done = omega (arith, all) in
    at _ (subst (λ (n : ℕ). RunsTo s m done n (end.OutOfSteps m.output)) none refl)
