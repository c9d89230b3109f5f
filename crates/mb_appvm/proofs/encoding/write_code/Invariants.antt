use Rattle.std.proofs.Common.{take}
use Rattle.mb_appvm.specs.Checking.{IsCode}
use Rattle.mb_appvm.proofs.encoding.write_code.Given as goal

abbrev pub invariant-loop-line : goal.invariant-loop-line
invariant-loop-line l = IsCode l.lines (take l.line-index l.lines) l.code.items
