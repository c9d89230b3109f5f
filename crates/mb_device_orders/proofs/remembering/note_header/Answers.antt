use Rattle.mb_device_orders.proofs.Remembered.{code_noted}
use Rattle.mb_device_orders.proofs.remembering.note_header.Goals as goal

pub returns : goal.returns
returns g c = λ state ready.
    code_noted (g.B.Board.seen c.args.b.now).memory c.read_root-root.result c.read_noted.result state ready c.read_root-root.ensures.current.only c.read_noted.ensures.noted c.read_noted.ensures.fits
