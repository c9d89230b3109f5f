use Rattle.std.proofs.Common.{ap, length, arith}
use Rattle.mb_device_orders.proofs.Planned.{root_planned}
use Rattle.mb_device_orders.proofs.planning.next_root.Goals as goal

pub overflow_cast-pending : goal.overflow_cast-pending
overflow_cast-pending c = omega (arith, ap length c.as_slice.ensures, c.requires.few)

pub returns : goal.returns
returns c = λ state order draw is plans. root_planned state order draw c.args.root.now c.args.plan.now (length c.as_slice.result.now) is plans (ap length c.as_slice.ensures)
