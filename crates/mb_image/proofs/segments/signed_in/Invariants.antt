use Rattle.std.proofs.Common.{◌≡◌, length}
use Rattle.mb_model.specs.memories.Flash.{HoldsLog}
use Rattle.mb_image.proofs.segments.signed_in.Given as goal

abbrev pub invariant-loop-position : goal.invariant-loop-position
invariant-loop-position l = record { count : length l.log ≡ l.position; holds : HoldsLog l.flash l.log }
