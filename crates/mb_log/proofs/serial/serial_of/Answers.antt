use Rattle.std.proofs.Common.{sym, ap, ◌∙◌}
use Rattle.std.specs.Option.{option_or}
use Rattle.mb_log.proofs.Serials.{serial_none, serial_more}
use Rattle.mb_log.proofs.serial.serial_of.Goals as goal

pub loop-signed-init : goal.loop-signed-init
loop-signed-init c = sym serial_none

pub loop-signed-preserved : goal.loop-signed-preserved
loop-signed-preserved c =
    c.or-serial.ensures ∙ ap (λ o. option_or o c.loop-signed.serial) c.serial_in.ensures
    ∙ serial_more c.args.log.now c.loop-signed.signed-index _ c.loop-signed.serial c.loop-signed-test.true c.loop-signed.invariant
