use Rattle.std.proofs.Common.{arith}
use Rattle.mb_script.proofs.Parts.{number_word, number_none}
use Rattle.mb_script.proofs.words.split_number.Goals as goal

pub returns-in_default : goal.returns-in_default
returns-in_default c = λ number rest has. number_none c.args.most c.args.text.now number rest c.in_default.ensures has

pub returns-in-None : goal.returns-in-None
returns-in-None c = λ number rest has.
    c.in-None.ensures number (number_word c.args.most c.args.text.now c.in-Some.word.now c.in-Some.rest.now number rest (omega arith) c.in-Some.ensures has).0
