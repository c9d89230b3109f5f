use Rattle.mb_bytes.proofs.Putting.{puts_both}
use Rattle.mb_layout.proofs.LayerBytes.{unowned_bytes, owned_bytes, loaded_bytes}
use Rattle.mb_layout.proofs.layer.put_layer.Goals as goal

pub returns-in_ok-put_u8-in-None-default : goal.returns-in_ok-put_u8-in-None-default
returns-in_ok-put_u8-in-None-default c =
    rw (unowned_bytes c.args.version c.args.layer.now c.in-None-default.is-0)
    (puts_both _ _ c.put_trusts.result c.in_ok-put_u8-in-None-default.ensures.puts c.put_trusts.ensures)

pub returns-in_ok-put_trusts-in-Some-None : goal.returns-in_ok-put_trusts-in-Some-None
returns-in_ok-put_trusts-in-Some-None c =
    let r = c.put_public_key.result in
    rw (owned_bytes c.args.version c.args.layer.now c.in-Some-None.owner c.in-Some-None.is-0 c.in-Some-None.is-1)
    (puts_both _ _ r c.in_ok-put_u8-in-Some-None.ensures.puts (puts_both _ _ r c.in_ok-put_trusts-in-Some-None.ensures c.put_public_key.ensures))

pub returns-in_ok-put_public_key-in-Some-Some : goal.returns-in_ok-put_public_key-in-Some-Some
returns-in_ok-put_public_key-in-Some-Some c =
    let r = c.put_code_name.result in
    let byte = rw c.loaded_number.ensures at c.in_ok-put_u8-in-Some-Some.ensures.puts in
    rw (loaded_bytes c.args.version c.args.layer.now c.in-Some-Some.owner c.in-Some-Some.name c.in-Some-Some.is-0 c.in-Some-Some.is-1)
    (puts_both _ _ r byte (puts_both _ _ r c.in_ok-put_trusts-in-Some-Some.ensures (puts_both _ _ r c.in_ok-put_public_key-in-Some-Some.ensures c.put_code_name.ensures)))
