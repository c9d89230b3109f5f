use Rattle.mb_bytes.proofs.Putting.{IsWriting}
use Rattle.mb_bytes.proofs.field.put_items.Given as goal

abbrev pub invariant-loop-item : goal.invariant-loop-item
invariant-loop-item g l = IsWriting (λ (u : Unit {0}). g.F.Field.format) (λ u a. u) l.fn.items l.item-index tt tt l.initial.out l.out
