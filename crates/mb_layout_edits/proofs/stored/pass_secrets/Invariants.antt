use Rattle.mb_model.specs.records.RegionFormat.{secret_format}
use Rattle.mb_layout_edits.proofs.Walking.{IsPassing}
use Rattle.mb_layout_edits.proofs.stored.pass_secrets.Given as goal

abbrev pub invariant-loop-i : goal.invariant-loop-i
invariant-loop-i l = IsPassing secret_format l.count l._i l.initial.cursor l.cursor
