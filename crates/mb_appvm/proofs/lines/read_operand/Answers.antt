use Rattle.std.proofs.Common.{refl}
use Rattle.std.proofs.lemmas.Bool.{false≢true}
use Rattle.mb_appvm.proofs.Words.{says_push, says_no_push, says_get, says_no_get}
use Rattle.mb_appvm.proofs.lines.read_operand.Goals as goal

pub returns-in-Some : goal.returns-in-Some
returns-in-Some c = says_push c.args.keyword c.args.operand.now c.in-Some.number c.in-Push.is c.in-Some.ensures

pub returns-in-None : goal.returns-in-None
returns-in-None c = says_no_push c.args.keyword c.args.operand.now c.in-Push.is c.in-None.ensures

pub returns-then-is_name : goal.returns-then-is_name
returns-then-is_name c = says_get c.args.keyword c.args.operand.now c.new.result c.in-Get.is c.new.ensures (c.if-is_name.ensures.0 refl)

pub returns-else-is_name : goal.returns-else-is_name
returns-else-is_name c = says_no_get c.args.keyword c.args.operand.now c.in-Get.is (λ is. false≢true (c.if-is_name.ensures.1 is))
