use Rattle.std.proofs.Common.{ap, ◌∙◌, arith, length}
use Rattle.mb_format.specs.Format.{IsBytes}
use Rattle.mb_command.proofs.Feeding.{settled_over, settled_here, settled_lost, settled_open}
use Rattle.mb_command.proofs.survey.failing_offset.Goals as goal

pub returns-then-left-gt0-clause-settled : goal.returns-then-left-gt0-clause-settled
returns-then-left-gt0-clause-settled c =
    let are : IsBytes c.args.bytes.now = λ i. omega (arith, c.type_inv.bytes i) in
    let start = c.new-cursor.ensures in
    let size = ap length (c.in-Ok.ensures.bytes ∙ start.all) in
    rw c.offset.ensures (settled_over c.args.bytes.now c.new-cursor.result c.survey_order.new.cursor are start.all start.first c.in-Ok.ensures (omega (arith, size, c.left.ensures, c.if-left-gt0.true)))

pub returns-else-left-gt0-clause-settled : goal.returns-else-left-gt0-clause-settled
returns-else-left-gt0-clause-settled c =
    let are : IsBytes c.args.bytes.now = λ i. omega (arith, c.type_inv.bytes i) in
    let start = c.new-cursor.ensures in
    let size = ap length (c.in-Ok.ensures.bytes ∙ start.all) in
    settled_here c.args.bytes.now c.new-cursor.result c.survey_order.new.cursor are start.all start.first c.in-Ok.ensures (omega (arith, size, c.left.ensures, c.if-left-gt0.false))

pub returns-in-Err-Lost-clause-settled : goal.returns-in-Err-Lost-clause-settled
returns-in-Err-Lost-clause-settled c =
    let are : IsBytes c.args.bytes.now = λ i. omega (arith, c.type_inv.bytes i) in
    let start = c.new-cursor.ensures in
    rw c.in-Err-Lost.field-0-is (settled_lost c.args.bytes.now c.new-cursor.result c.in-Err-Lost.at are start.all start.first (rw c.in-Err-Lost.field-0-is at c.in-Err-Lost.ensures).1)

pub returns-in-Err-Open-clause-settled : goal.returns-in-Err-Open-clause-settled
returns-in-Err-Open-clause-settled c =
    let are : IsBytes c.args.bytes.now = λ i. omega (arith, c.type_inv.bytes i) in
    let start = c.new-cursor.ensures in
    settled_open c.args.bytes.now c.new-cursor.result are start.all start.first (rw c.in-Err-Open.field-0-is at c.in-Err-Open.ensures).1

pub returns-then-left-gt0-clause-bytes : goal.returns-then-left-gt0-clause-bytes
returns-then-left-gt0-clause-bytes c i = omega (arith, c.type_inv.bytes i)

pub returns-else-left-gt0-clause-bytes : goal.returns-else-left-gt0-clause-bytes
returns-else-left-gt0-clause-bytes c i = omega (arith, c.type_inv.bytes i)

pub returns-in-Err-Lost-clause-bytes : goal.returns-in-Err-Lost-clause-bytes
returns-in-Err-Lost-clause-bytes c i = omega (arith, c.type_inv.bytes i)

pub returns-in-Err-Open-clause-bytes : goal.returns-in-Err-Open-clause-bytes
returns-in-Err-Open-clause-bytes c i = omega (arith, c.type_inv.bytes i)
