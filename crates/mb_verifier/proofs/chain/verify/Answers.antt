use Rattle.std.proofs.Common.{arith}
use Rattle.mb_format.specs.Format.{IsBytes}
use Rattle.mb_model.specs.chains.Acceptance.{IsRefused}
use Rattle.mb_verifier.proofs.Verdicts.{each_refused, answer_is_ruled}
use Rattle.mb_verifier.proofs.chain.verify.Goals as goal

pub returns-in-Ok-clause-refused : goal.returns-in-Ok-clause-refused
returns-in-Ok-clause-refused c = each_refused (IsRefused c.args.root.now c.args.chain.now c.args.key) c.report_on.result (c.report_on.ensures.refused c.args.chain.now c.in-Ok.ensures)

pub returns-in-Ok-clause-ruled : goal.returns-in-Ok-clause-ruled
returns-in-Ok-clause-ruled c =
    let are : IsBytes c.args.chain.now = λ i. omega (arith, c.type_inv.chain i) in
    answer_is_ruled c.args.root.now c.args.chain.now c.args.key c.report_on.result are (c.report_on.ensures.accepted c.args.chain.now c.in-Ok.ensures)
