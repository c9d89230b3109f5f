use Rattle.mb_appvm.proofs.Codes.{jump_allowed}
use Rattle.mb_appvm.proofs.encoding.put_line.Goals as goal

pub put_instruction-requires-in-JumpTo : goal.put_instruction-requires-in-JumpTo
put_instruction-requires-in-JumpTo c = jump_allowed c.in-JumpTo.kind c.place_of-place.result c.jump_to.result c.jump_to.ensures c.place_of-place.ensures.short
