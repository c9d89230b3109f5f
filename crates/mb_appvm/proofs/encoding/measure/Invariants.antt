use Rattle.mb_appvm.proofs.Codes.{AreMeasuredTo}
use Rattle.mb_appvm.proofs.encoding.measure.Given as goal

abbrev pub invariant-loop-line : goal.invariant-loop-line
invariant-loop-line l = AreMeasuredTo l.said l.line-index l.place l.places.items
