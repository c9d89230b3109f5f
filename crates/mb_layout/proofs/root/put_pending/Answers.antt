use Rattle.mb_model.specs.records.RootFormat.{pending_format}
use Rattle.mb_bytes.proofs.Putting.{puts_both}
use Rattle.mb_layout.proofs.root.put_pending.Goals as goal

pub returns : goal.returns
unfolding pending_format
returns c =
    let r = c.put_fate-2.result in
    puts_both _ _ r c.in_ok-put_u8.ensures.puts (puts_both _ _ r c.in_ok-put_optional.ensures (puts_both _ _ r c.in_ok-put_fate.ensures c.put_fate-2.ensures))
