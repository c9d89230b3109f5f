use Rattle.mb_bytes.proofs.Putting.{puts_both}
use Rattle.mb_layout.proofs.entry.put_kept.Goals as goal

pub returns : goal.returns
returns c =
    let r = c.put_optional.result in
    puts_both _ _ r c.in_ok-put_pair.ensures (puts_both _ _ r c.in_ok-put_layers.ensures c.put_optional.ensures)
