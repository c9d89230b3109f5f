use Rattle.mb_script.proofs.Parts.{tail_none}
use Rattle.mb_script.proofs.events.split_kept.Goals as goal

pub returns-in-None : goal.returns-in-None
returns-in-None c =
    tail_none c.args.words.now c.in-Some-after_word.number.now c.in-Some-split_number.rest.now c.in-Some-split_number.keep
    c.in_default.ensures c.in-Some-after_word.ensures c.in-Some-split_number.ensures c.in-None.ensures
