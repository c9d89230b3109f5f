use Rattle.mb_bytes.proofs.Putting.{puts_both}
use Rattle.mb_layout.proofs.root.put_root_key.Goals as goal

pub returns : goal.returns
returns c =
    let r = c.put_optional.result in
    puts_both _ _ r c.in_ok-put_key_seed.ensures (puts_both _ _ r c.in_ok-put_uses.ensures c.put_optional.ensures)
