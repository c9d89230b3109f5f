use Rattle.mb_policy.specs.Meanings.{items_of}
use Rattle.mb_policy.proofs.ItemLines.{no_verb}
use Rattle.mb_policy.proofs.lines.read_line.Goals as goal

pub returns-in-None : goal.returns-in-None
returns-in-None c = no_verb (items_of c.args.before.now) c.args.line.now c.in-Some.word.now c.take.new.self c.of-words.result c.of-words.ensures c.in-Some.ensures c.in-None.ensures
