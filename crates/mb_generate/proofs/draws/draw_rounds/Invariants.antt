use Rattle.std.proofs.Common.{map}
use Rattle.mb_model_commands.specs.Workload.{DrawnRound}
use Rattle.mb_generate.specs.Drawing.{IsDrawn, DrawnEach, round_of}
use Rattle.mb_generate.proofs.draws.draw_rounds.Given as goal

abbrev pub invariant-loop-round : goal.invariant-loop-round
invariant-loop-round l = IsDrawn (DrawnEach DrawnRound l._round) l.fn.rng (map round_of l.rounds) l.rng
