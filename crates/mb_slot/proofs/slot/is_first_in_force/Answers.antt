use Rattle.std.proofs.Common.{inl}
use Rattle.mb_slot.proofs.Slotted.{selector_reached}
use Rattle.mb_slot.proofs.slot.is_first_in_force.Goals as goal

pub bbram_read-requires-clause-reached : goal.bbram_read-requires-clause-reached
bbram_read-requires-clause-reached g c = inl (selector_reached _ c.args.slot c.requires.least c.requires.most c.requires.reached)
