use Rattle.mb_model.specs.records.RootFormat.{region_key_format}
use Rattle.mb_bytes.proofs.Putting.{puts_both}
use Rattle.mb_layout.proofs.root.put_region_key.Goals as goal

pub returns : goal.returns
unfolding region_key_format
returns c =
    let r = c.put_uses.result in
    puts_both _ _ r c.in_ok-put_u32.ensures.puts (puts_both _ _ r c.in_ok-put_key_kind.ensures (puts_both _ _ r c.in_ok-put_key_seed.ensures c.put_uses.ensures))
