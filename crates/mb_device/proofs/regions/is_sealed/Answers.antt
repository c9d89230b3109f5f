use Rattle.mb_device.proofs.Uses.{slot_can_be, code_there}
use Rattle.mb_device.proofs.regions.is_sealed.Goals as goal

pub takes_calls-requires-clause-slot : goal.takes_calls-requires-clause-slot
takes_calls-requires-clause-slot g c = slot_can_be c.args.running.now.known (g.B.Board.seen c.args.b.now).memory _ c.slot.result c.slot.ensures c.requires.remembered

pub returns : goal.returns
returns g c = λ state codes.
    c.takes_calls.ensures _
    (code_there c.args.running.now.known (g.B.Board.seen c.args.b.now).memory.flash state g.L.Compartment.place _ c.slot.result g.met.L.Named.named c.number-layer.ensures c.slot.ensures codes)
