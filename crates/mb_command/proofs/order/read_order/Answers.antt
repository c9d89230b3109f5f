use Rattle.std.proofs.Common.{arith, lit≤, []}
use Rattle.std.proofs.lemmas.Result.{err_from_is_err_and}
use Rattle.mb_format.specs.Format.{IsBytes}
use Rattle.mb_model.proofs.OrderFormatLaws.{order_exact}
use Rattle.mb_model.proofs.OrderReach.{order_local}
use Rattle.mb_bytes.proofs.Whole.{reads_near}
use Rattle.mb_bytes.specs.Ends.{end_at}
use Rattle.mb_command.proofs.Feeding.{ended_whole}
use Rattle.mb_command.proofs.order.read_order.Goals as goal

pub returns-clause-reads : goal.returns-clause-reads
returns-clause-reads c = c.finish.ensures.reads c.args.bytes.now (c.in_ok-feed.ensures.takes [] c.new-reader.ensures)

pub returns-clause-near : goal.returns-clause-near
returns-clause-near c =
    let are : IsBytes c.args.bytes.now = λ i. omega (arith, c.type_inv.bytes i) in
    reads_near (λ a. a) end_at order_exact order_local c.args.bytes.now are 65536 (lit≤ tt) c.finish.result (returns-clause-reads c)

pub returns-in_err-feed-clause-reads : goal.returns-in_err-feed-clause-reads
returns-in_err-feed-clause-reads c =
    let p = err_from_is_err_and c.from_residual.result c.from_residual.ensures.1 in
    rw (p.1, p.2) (ended_whole c.args.bytes.now c.in_err-feed.field-0.0 (c.in_err-feed.ensures.answers [] c.new-reader.ensures))

pub returns-in_err-feed-clause-near : goal.returns-in_err-feed-clause-near
returns-in_err-feed-clause-near c =
    let are : IsBytes c.args.bytes.now = λ i. omega (arith, c.type_inv.bytes i) in
    reads_near (λ a. a) end_at order_exact order_local c.args.bytes.now are 65536 (lit≤ tt) c.from_residual.result (returns-in_err-feed-clause-reads c)
