use Rattle.std.proofs.lemmas.Bool.{false≢true}
use Rattle.mb_appvm.proofs.Words.{says_jump, says_no_jump}
use Rattle.mb_appvm.proofs.lines.read_jump.Goals as goal

pub returns-in-Some : goal.returns-in-Some
returns-in-Some c = says_jump c.args.kind c.args.operand.now c.in-Some.place c.jump_to.result c.jump_to.ensures c.in-Some.ensures

pub returns-in-None : goal.returns-in-None
returns-in-None c = says_no_jump c.args.kind c.args.operand.now (λ is. false≢true (c.if-is_label_name.ensures.1 is)) c.in-None.ensures
