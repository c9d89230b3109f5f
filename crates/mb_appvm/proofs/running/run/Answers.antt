use Rattle.std.proofs.Common.{◌∙◌, arith}
use Rattle.mb_appvm.specs.Acting.{state_of, surroundings_of}
use Rattle.mb_appvm.proofs.RunSteps.{goes_on, halts, traps_here, runs_out}
use Rattle.mb_appvm.proofs.running.run.Goals as goal

pub returns-in-Ends-clause-ran : goal.returns-in-Ends-clause-ran
returns-in-Ends-clause-ran g c =
    halts (surroundings_of c.args.environment.now) (state_of c.args.machine.now) c.args.steps c.loop-done.done c.loop-done.machine c.step.new.self
    c.loop-done-test.true c.loop-done.invariant.0 c.in-Ends.ensures

pub returns-in-Traps-clause-ran : goal.returns-in-Traps-clause-ran
returns-in-Traps-clause-ran g c =
    traps_here (surroundings_of c.args.environment.now) (state_of c.args.machine.now) c.args.steps c.loop-done.done c.in-Traps.cause c.loop-done.machine
    c.step.new.self c.loop-done-test.true c.loop-done.invariant.0 c.in-Traps.ensures

pub loop-done-preserved : goal.loop-done-preserved
loop-done-preserved g c = (
  goes_on (surroundings_of c.args.environment.now) (state_of c.args.machine.now) c.args.steps c.loop-done.done c.loop-done.machine c.step.new.self
      c.loop-done-test.true c.loop-done.invariant.0 c.in-GoesOn.ensures,
  c.see.ensures ∙ c.loop-done.invariant.1,
)

pub returns-clause-ran : goal.returns-clause-ran
returns-clause-ran g c =
    runs_out (surroundings_of c.args.environment.now) (state_of c.args.machine.now) (state_of c.loop-done.machine) c.args.steps c.loop-done.done
    (omega arith) c.loop-done.invariant.0
