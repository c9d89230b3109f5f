use Rattle.mb_words.proofs.Parts.{begins, begins_not}
use Rattle.mb_words.proofs.lines.after_word.Goals as goal

pub returns-in-Some : goal.returns-in-Some
returns-in-Some c = begins c.args.line.now c.args.word.now c.in-Some.rest.now c.in-Some.ensures.cases.0 c.in-Some.ensures.cases.1

pub returns-in-None : goal.returns-in-None
returns-in-None c = λ rest e. begins_not c.args.line.now c.args.word.now rest c.in-None.ensures.cases e
