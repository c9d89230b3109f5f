use Rattle.std.proofs.Common.{inl, length}
use Rattle.mb_slot.proofs.Slotted.{reached_as, read_as_other}
use Rattle.mb_slot.proofs.slot.read_other.Goals as goal

pub bbram_read-requires-clause-reached : goal.bbram_read-requires-clause-reached
bbram_read-requires-clause-reached g c = inl (reached_as _ _ _ c.requires.room c.other_at.ensures.reached)

pub returns : goal.returns
returns g c = read_as_other c.args.slot c.other_at.result (length c.args.out.now) _ c.bbram_read.new.out c.other_at.ensures.same c.requires.room c.bbram_read.ensures
