use Rattle.mb_bytes.proofs.Reading.{IsReading}
use Rattle.mb_bytes.proofs.field.items_at.Given as goal

abbrev pub invariant-loop-i : goal.invariant-loop-i
invariant-loop-i g l = IsReading (λ (u : Unit {0}). g.F.Field.format) (λ u a. u) l.count l._i tt tt l.items l.initial.cursor l.cursor
