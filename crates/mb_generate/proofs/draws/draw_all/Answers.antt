use Rattle.std.proofs.Common.{ap, ◌∙◌}
use Rattle.rand_chacha.specs.ChaCha.{of_seed}
use Rattle.mb_generate.proofs.Drawings.{all_drawn}
use Rattle.mb_generate.proofs.draws.draw_all.Goals as goal

pub returns : goal.returns
returns c =
    all_drawn c.args.number c.args.rounds _ (c.from_seed-rng.ensures ∙ ap of_seed c.seed_of.ensures)
    c.in_ok-draw_array.ensures c.in_ok-draw_array-2.ensures c.in_ok-draw_array-3.ensures c.in_ok-draw_array-4.ensures c.in_ok-draw_array-5.ensures
    c.in_ok-draw_code.ensures c.in_ok-draw_code-2.ensures c.in_ok-draw_code-3.ensures c.in_ok-draw_rounds.ensures c.in_ok-draw_bytes.ensures.drawn
