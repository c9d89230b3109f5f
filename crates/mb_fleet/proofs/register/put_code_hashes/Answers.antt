use Rattle.mb_fleet.specs.RegisterFormat.{code_hashes_format}
use Rattle.mb_bytes.proofs.Putting.{puts_both}
use Rattle.mb_fleet.proofs.register.put_code_hashes.Goals as goal

pub returns : goal.returns
unfolding code_hashes_format
returns c =
    let r = c.put_optional-3.result in
    puts_both _ _ r c.in_ok-put_optional.ensures (puts_both _ _ r c.in_ok-put_optional-2.ensures c.put_optional-3.ensures)
