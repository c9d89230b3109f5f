use Rattle.std.proofs.Common.{true, false, eq-eqb, ne_eqb}
use Rattle.mb_image.proofs.Areas.{area_at}
use Rattle.mb_image.proofs.memory.current_area.Goals as goal
use Rattle.mb_image.proofs.memory.current_area.Goals.{then-bbram-slot-eq0, else-bbram-slot-eq0}

pub returns : goal.returns
returns c =
    elim c.if-bbram-slot-eq0.branch [
      | then-bbram-slot-eq0 w ↦ area_at _ _ _ true c.requires.first c.requires.last (eq-eqb _ _ w.if-bbram-slot-eq0.true) w.start-is
      | else-bbram-slot-eq0 w ↦ area_at _ _ _ false c.requires.first c.requires.last (ne_eqb _ _ w.if-bbram-slot-eq0.false) w.start-is
    ]
