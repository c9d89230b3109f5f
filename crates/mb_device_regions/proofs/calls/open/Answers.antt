use Rattle.std.proofs.Common.{Some, sym, subst}
use Rattle.mb_model.specs.declared.stored.Slot.{Slot}
use Rattle.mb_model.specs.memories.Flash.{HoldsCode}
use Rattle.mb_device_regions.proofs.Calling.{code_held}
use Rattle.mb_device_regions.proofs.calls.open.Goals as goal

pub returns-clause-code : goal.returns-clause-code
returns-clause-code g c = λ state code codes is.
    let flash = (g.B.Board.seen c.args.b.now).memory.flash in
    c.read_code.ensures.read code
    (subst (λ (slot : Slot). HoldsCode flash c.args.layer slot (Some code)) (sym c.slot.ensures) (code_held c.args.layer c.requires.layer c.args.running.now.known flash state code codes is))
