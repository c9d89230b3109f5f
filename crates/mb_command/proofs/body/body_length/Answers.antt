use Rattle.mb_model.specs.records.OrderFormat.{body_format, order_format}
use Rattle.mb_command.proofs.Lengths.{length-body, body_first}
use Rattle.mb_command.proofs.body.body_length.Goals as goal

pub targets_length-requires : goal.targets_length-requires
unfolding order_format body_format
targets_length-requires c = c.requires.0.1.1.0

pub act_length-requires : goal.act_length-requires
unfolding order_format body_format
act_length-requires c = c.requires.0.1.1.1

pub returns-clause-length : goal.returns-clause-length
returns-clause-length c = rw (c.targets_length.ensures.length, c.act_length.ensures.length) (length-body c.args.order.now)

pub returns-clause-first : goal.returns-clause-first
returns-clause-first c = body_first c.args.order.now _ (returns-clause-length c)
