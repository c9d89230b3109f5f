use Rattle.std.proofs.Common.{◌≡◌, take}
use Rattle.mb_model.specs.owners.Log.{entries_of, serial_of}
use Rattle.mb_log.proofs.serial.serial_of.Given as goal

abbrev pub invariant-loop-signed : goal.invariant-loop-signed
invariant-loop-signed l = l.serial ≡ serial_of (entries_of (take l.signed-index l.log))
