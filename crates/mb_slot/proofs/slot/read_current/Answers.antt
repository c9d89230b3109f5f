use Rattle.std.proofs.Common.{inl, length}
use Rattle.mb_slot.proofs.Slotted.{read_as_current, reached_as}
use Rattle.mb_slot.proofs.slot.read_current.Goals as goal

pub bbram_read-requires-clause-reached : goal.bbram_read-requires-clause-reached
bbram_read-requires-clause-reached g c = inl (reached_as _ _ _ c.requires.room c.current_at.ensures.reached)

pub returns : goal.returns
returns g c = read_as_current c.args.slot c.current_at.result (length c.args.out.now) _ c.bbram_read.new.out c.current_at.ensures.same c.requires.room c.bbram_read.ensures
