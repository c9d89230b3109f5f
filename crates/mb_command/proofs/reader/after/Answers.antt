use Rattle.std.proofs.Common.{arith}
use Rattle.mb_format.specs.Format.{IsBytes}
use Rattle.mb_command.proofs.Feeding.{ended_more}
use Rattle.mb_command.proofs.reader.after.Goals as goal

pub returns-in-Ended-clause-keeps : goal.returns-in-Ended-clause-keeps
returns-in-Ended-clause-keeps c fed kept =
    let are : IsBytes c.args.piece.now = λ i. omega (arith, c.type_inv.piece i) in
    rw c.ended.ensures.keeps (ended_more fed c.args.piece.now c.in-Ended.end are (rw c.in-Ended.is at kept))

pub returns-in-Ended-clause-answers : goal.returns-in-Ended-clause-answers
returns-in-Ended-clause-answers c fed kept =
    let are : IsBytes c.args.piece.now = λ i. omega (arith, c.type_inv.piece i) in
    rw c.ended.ensures.answers (ended_more fed c.args.piece.now c.in-Ended.end are (rw c.in-Ended.is at kept))
