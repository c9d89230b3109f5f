use Rattle.std.proofs.Common.{◌+◌, List, map, sym, ap, subst, ◌∙◌}
use Rattle.std.proofs.lemmas.List.{map_push}
use Rattle.mb_model_commands.specs.Workload.{RoundDraws, DrawnRound}
use Rattle.mb_generate.specs.Drawing.{IsDrawn, DrawnEach, round_of}
use Rattle.mb_generate.proofs.Drawings.{one_more_drawn}
use Rattle.mb_generate.proofs.draws.draw_rounds.Goals as goal

pub loop-round-preserved : goal.loop-round-preserved
loop-round-preserved c =
    subst (λ (rounds : List RoundDraws). IsDrawn (DrawnEach DrawnRound (c.loop-round._round + 1)) c.args.rng.now rounds c.draw_round.new.rng)
    (sym (ap (map round_of) c.in_ok-push.ensures.ok ∙ map_push round_of c.loop-round.rounds c.in_ok-draw_round.field-0))
    (one_more_drawn DrawnRound c.args.rng.now c.loop-round._round (map round_of c.loop-round.rounds) c.loop-round.rng (round_of c.in_ok-draw_round.field-0) c.draw_round.new.rng
    c.loop-round.invariant c.in_ok-draw_round.ensures)
