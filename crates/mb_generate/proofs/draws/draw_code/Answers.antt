use Rattle.std.proofs.Common.{◌+◌, ◌%◌}
use Rattle.mb_generate.proofs.Drawings.{sized_result}
use Rattle.mb_generate.proofs.draws.draw_code.Goals as goal

pub returns : goal.returns
returns c =
    sized_result (λ word. 1024 + word % 31745) c.args.rng.now c.next_word-size.result c.next_word-size.new.self c.draw_bytes.result c.draw_bytes.new.rng
    c.next_word-size.ensures c.draw_bytes.ensures.drawn
