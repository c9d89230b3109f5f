use Rattle.std.proofs.Common.{◌≡◌}
use Rattle.std.specs.Prelude.{take, sum_by}
use Rattle.mb_appvm.specs.Assembly.{size_of}
use Rattle.mb_appvm.specs.Checking.{AreSoundLines}
use Rattle.mb_appvm.proofs.checking.count_sound.Given as goal

abbrev pub invariant-loop-at : goal.invariant-loop-at
invariant-loop-at l = AreSoundLines l.lines l.later (take l.at l.lines) × (l.size ≡ sum_by size_of (take l.at l.lines))
