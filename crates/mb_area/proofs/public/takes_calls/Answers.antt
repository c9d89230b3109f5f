use Rattle.std.proofs.Common.{◌∙◌, arith}
use Rattle.mb_area.proofs.Published.{none_named, short_named, word_named}
use Rattle.mb_area.proofs.public.takes_calls.Goals as goal

pub returns-then-slot-eq0 : goal.returns-then-slot-eq0
returns-then-slot-eq0 g c = none_named (g.B.Board.seen c.args.b.now).memory.flash c.args.layer c.args.slot (omega (arith, c.if-slot-eq0.true))

pub returns-then-slot-lt6 : goal.returns-then-slot-lt6
returns-then-slot-lt6 g c = short_named (g.B.Board.seen c.args.b.now).memory.flash c.args.layer c.args.slot (omega (arith, c.if-slot-lt6.true))

pub returns : goal.returns
returns g c = λ code holds.
    c.is_call_word.ensures
    ∙ word_named (g.B.Board.seen c.args.b.now).memory.flash c.args.layer c.args.slot c.read_front.new.out (λ e. omega (arith, c.if-slot-eq0.false, e)) (omega (arith, c.if-slot-lt6.false)) c.read_front.ensures code holds
