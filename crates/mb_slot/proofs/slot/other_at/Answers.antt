use Rattle.std.proofs.Common.{not, ap}
use Rattle.mb_slot.proofs.Slotted.{area_is_at}
use Rattle.mb_slot.proofs.slot.other_at.Goals as goal

pub returns : goal.returns
returns g c = area_is_at _ c.args.slot c.offset_of.result _ (not c.is_first_in_force.result) c.requires.least c.requires.most c.requires.reached (ap not c.is_first_in_force.ensures) c.offset_of.ensures
