use Rattle.mb_model.specs.records.OrderFormat.{payload_format}
use Rattle.mb_bytes.proofs.Putting.{puts_both}
use Rattle.mb_command.proofs.act.put_payload.Goals as goal

pub returns : goal.returns
unfolding payload_format
returns c = puts_both _ _ c.put_after_u32.result c.in_ok-put_u32.ensures.puts (puts_both _ _ c.put_after_u32.result (rw c.are_equal.ensures at c.in_ok-put_given.ensures) (rw c.as_slice.ensures at c.put_after_u32.ensures))
