use Rattle.std.proofs.Common.{◌%◌, ◌∷◌, ◌++◌, [], get_or, ap, sym, ◌∙◌, arith}
use Rattle.std.proofs.lemmas.List.{take_more_set}
use Rattle.mb_board.proofs.Fillings.{filling_more, filling_none}
use Rattle.mb_board.proofs.bank.fill.Goals as goal

pub loop-offset-init : goal.loop-offset-init
loop-offset-init c = sym (filling_none c.args.tear.now)

pub loop-offset-preserved : goal.loop-offset-preserved
loop-offset-preserved c =
    let next = get_or c.args.tear.now.fill (c.loop-offset.offset % c.args.tear.now.fill_length) 0 in
    take_more_set c.loop-offset.range c.loop-offset.offset next (omega arith)
    ∙ (ap (λ bytes. bytes ++ next ∷ []) c.loop-offset.invariant ∙ sym (filling_more c.args.tear.now c.loop-offset.offset))
