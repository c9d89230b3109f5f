use Rattle.mb_generate.proofs.Drawings.{round_drawn}
use Rattle.mb_generate.proofs.draws.draw_round.Goals as goal

pub returns : goal.returns
returns c =
    round_drawn c.args.rng.now c.in_ok-draw_code.field-0 c.draw_code.new.rng c.in_ok-draw_values.field-0 c.draw_values.new.rng c.in_ok-draw_bytes.field-0 c.draw_bytes.new.rng
    c.in_ok-draw_code.ensures c.in_ok-draw_values.ensures c.in_ok-draw_bytes.ensures.drawn
