use Rattle.mb_generate.proofs.Drawings.{AreBytes}
use Rattle.mb_generate.proofs.draws.draw_bytes.Given as goal

abbrev pub invariant-loop-word : goal.invariant-loop-word
invariant-loop-word l = AreBytes l.fn.rng l._word l.bytes.items l.rng
