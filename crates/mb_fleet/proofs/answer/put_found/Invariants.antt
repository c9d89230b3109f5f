-- The lines so far, after the first.
use Rattle.std.proofs.Common.{◌≡◌, ◌++◌, take, map}
use Rattle.mb_model.specs.chains.Lines.{text_of}
use Rattle.mb_fleet.specs.Serving.{serial_line}
use Rattle.mb_fleet.proofs.answer.put_found.Given as goal

abbrev pub invariant-loop-serial : goal.invariant-loop-serial
invariant-loop-serial l = l.out.items ≡ l.initial.out.items ++ text_of (map serial_line (take l.serial-index l.serials))
