use Rattle.mb_model.specs.records.RegionFormat.{secrets_format, keys_format, region_by, region_format}
use Rattle.mb_bytes.proofs.Putting.{puts_both}
use Rattle.mb_layout.proofs.region.put_region.Goals as goal

pub returns : goal.returns
unfolding region_format region_by secrets_format keys_format
returns c =
    let r = c.put_keys.result in
    puts_both _ _ r c.in_ok-put_u8.ensures.puts (puts_both _ _ r c.in_ok-put_secrets.ensures (rw c.as_slice.ensures at c.put_keys.ensures))
