use Rattle.mb_officer.proofs.Trusting.{none_begins}
use Rattle.mb_officer.proofs.words.read_two_trusts.Goals as goal

pub returns-in_default-after_word-2 : goal.returns-in_default-after_word-2
returns-in_default-after_word-2 c = none_begins c.args.line.now c.in_default.ensures c.in_default-after_word.ensures c.in_default-after_word-2.ensures
