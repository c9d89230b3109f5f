use Rattle.mb_slot.proofs.Slotted.{area_is_at}
use Rattle.mb_slot.proofs.slot.current_at.Goals as goal

pub returns : goal.returns
returns g c = area_is_at _ c.args.slot c.offset_of.result _ c.is_first_in_force.result c.requires.least c.requires.most c.requires.reached c.is_first_in_force.ensures c.offset_of.ensures
