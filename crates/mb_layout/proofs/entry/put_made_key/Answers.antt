use Rattle.mb_bytes.proofs.Putting.{puts_both}
use Rattle.mb_layout.proofs.entry.put_made_key.Goals as goal

pub returns : goal.returns
returns c =
    let r = c.put_public_key.result in
    puts_both _ _ r c.in_ok-put_u32.ensures.puts (puts_both _ _ r c.in_ok-put_u8.ensures.puts (puts_both _ _ r c.in_ok-put_key_kind.ensures c.put_public_key.ensures))
