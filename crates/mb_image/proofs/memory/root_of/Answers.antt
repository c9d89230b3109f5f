use Rattle.std.proofs.Common.{subst}
use Rattle.mb_model.specs.memories.Memory.{IsBlank}
use Rattle.mb_image.proofs.Reading.{root_found}
use Rattle.mb_image.proofs.memory.root_of.Goals as goal

pub returns : goal.returns
returns c =
    root_found c.args.bbram.now c.current_area.result.now c.root_in.result c.current_area.ensures c.if-bbram.false
    (subst IsBlank c.spare.ensures (c.is_blank.ensures.0 c.if-not-is_blank.false)) c.root_in.ensures
