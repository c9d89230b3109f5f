use Rattle.std.proofs.Common.{arith}
use Rattle.mb_log.proofs.Added.{succession_counted}
use Rattle.mb_log.proofs.additions.make_ready.Goals as goal

pub returns-clause-keys : goal.returns-clause-keys
returns-clause-keys g c =
    succession_counted c.args.view.now c.args.names_next c.args.draw.now _ _ (λ one. absurd (omega (arith, c.if-needed_with-eq1.false, c.needed_with.ensures, one))) c.next_device_key-next.ensures.cost
