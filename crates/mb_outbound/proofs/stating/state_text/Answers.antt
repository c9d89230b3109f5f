use Rattle.mb_outbound.proofs.Stated.{message_stated, answer_stated}
use Rattle.mb_outbound.proofs.stating.state_text.Goals as goal

pub returns-in-Message-clause-signature : goal.returns-in-Message-clause-signature
returns-in-Message-clause-signature g c =
    message_stated c.args.seed.now c.args.right c.args.subject.now c.in-Message.message c.as_slice.result.now c.subject_text-head.result c.args.said.now c.in-Message.is c.as_slice.ensures c.subject_text-head.ensures c.sign_kept.ensures.signature

pub returns-in-Answer-clause-signature : goal.returns-in-Answer-clause-signature
returns-in-Answer-clause-signature g c =
    answer_stated c.args.seed.now c.args.right c.args.subject.now c.in-Answer.input c.in-Answer.answer c.as_slice-in-Answer.result.now c.call_head-head.result c.args.said.now c.in-Answer.is c.as_slice-in-Answer.ensures c.call_head-head.ensures c.sign_kept-in-Answer.ensures.signature
