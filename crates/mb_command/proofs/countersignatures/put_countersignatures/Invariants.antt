use Rattle.mb_bytes.proofs.Putting.{IsWriting}
use Rattle.mb_model.specs.records.OrderFormat.{countersignature_format}
use Rattle.mb_command.specs.Parts.{any_climb}
use Rattle.mb_command.proofs.countersignatures.put_countersignatures.Given as goal

abbrev pub invariant-loop-countersignature : goal.invariant-loop-countersignature
invariant-loop-countersignature l = IsWriting (λ (u : Unit {0}). countersignature_format any_climb) (λ u a. u) l.fn.list l.countersignature-index tt tt l.initial.out l.out
