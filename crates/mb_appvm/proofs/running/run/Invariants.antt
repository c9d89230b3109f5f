use Rattle.std.proofs.Common.{◌≡◌}
use Rattle.mb_appvm.specs.Acting.{state_of, surroundings_of}
use Rattle.mb_appvm.proofs.RunSteps.{IsAt}
use Rattle.mb_appvm.proofs.running.run.Given as goal

abbrev pub invariant-loop-done : goal.invariant-loop-done
invariant-loop-done g l =
    IsAt (surroundings_of l.environment) (state_of l.initial.machine) l.steps (state_of l.machine) l.done
    × (g.W.Watcher.kept l.watcher ≡ g.W.Watcher.kept l.initial.watcher)
