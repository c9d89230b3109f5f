use Rattle.std.proofs.Common.{◌∙◌}
use Rattle.mb_appvm.proofs.SecretReading.{one_written, all_written}
use Rattle.mb_appvm.proofs.secret_texts.write_secrets.Goals as goal

pub loop-secret-preserved : goal.loop-secret-preserved
loop-secret-preserved c =
    one_written c.args.secrets.now c.loop-secret.secret-index c.secret-item.result c.loop-secret.text.items c.put_secret.new.out.items c.loop-secret-test.true
    c.secret-item.is c.loop-secret.invariant c.in_ok-put_secret.ensures

pub returns : goal.returns
returns c = c.from_vec.ensures ∙ all_written c.args.secrets.now c.loop-secret.secret-index c.loop-secret.text.items c.loop-secret-test.false c.loop-secret.invariant
