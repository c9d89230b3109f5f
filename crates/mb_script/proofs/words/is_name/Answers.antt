use Rattle.std.proofs.Common.{arith}
use Rattle.mb_script.proofs.Parts.{name_exactly}
use Rattle.mb_script.proofs.words.is_name.Goals as goal

pub returns : goal.returns
returns c = name_exactly c.args.word.now c.is_name.result (grind (arith, c.is_empty.ensures, c.if-is_empty.false)) (omega arith) c.is_name.ensures
