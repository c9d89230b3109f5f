use Rattle.std.proofs.Common.{◌≡◌, ◌+◌, ◌*◌, ◌≤◌, take, map}
use Rattle.mb_model.specs.chains.Lines.{text_of}
use Rattle.mb_model_commands.specs.Workload.{plans}
use Rattle.mb_generate.specs.Drawing.{round_of, draws_of}
use Rattle.mb_generate.specs.Orders.{AreOfficers, HaveUsed}
use Rattle.mb_generate.specs.Scripts.{with_rounds, lines_before_end}
use Rattle.mb_generate.proofs.script.script_of.Given as goal

abbrev pub invariant-loop-round : goal.invariant-loop-round
invariant-loop-round g l = record {
  number : l.number ≡ l.round-index + 1;
  text : l.script.items ≡ text_of (lines_before_end (with_rounds (draws_of l.fn.drawn) (map round_of (take l.round-index l.fn.drawn.rounds))));
  officers : AreOfficers (draws_of l.fn.drawn) (plans (with_rounds (draws_of l.fn.drawn) (map round_of (take l.round-index l.fn.drawn.rounds)))) l.officers;
  used : HaveUsed (6 + l.round-index) l.officers;
  cost : l.hashes ≤ l.fn.hashes + 246163 + 106419 * l.round-index;
}
