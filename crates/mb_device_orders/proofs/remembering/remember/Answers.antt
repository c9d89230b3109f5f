use Rattle.std.proofs.Common.{refl}
use Rattle.std.specs.Box.{with_value}
use Rattle.mb_device_orders.specs.declared.remembering.Known.{Known}
use Rattle.mb_device_orders.proofs.Remembered.{knows_of, knows_code, code_noted}
use Rattle.mb_device_orders.proofs.remembering.remember.Goals as goal

pub returns : goal.returns
returns g c =
    let noted = c.read_noted-noted.result in
    let known : Known = record {
      serial = c.read_root-root.result.serial;
      figures = c.figures_in-figures.result;
      two = noted.two;
      three = noted.three;
      trees = with_value c.args.trees c.none.result;
    } in
    record {
      knows = λ state ready.
          knows_of (g.B.Board.seen c.args.b.now).memory c.read_root-root.result noted.signed known state ready c.read_root-root.ensures.current.only
          (λ header holds. (c.read_noted-noted.ensures.noted header holds).signed) c.figures_in-figures.ensures refl c.none.ensures.device c.none.ensures.region;
      codes = λ state ready.
          knows_code noted known (g.B.Board.seen c.args.b.now).memory.flash state refl refl
          (code_noted (g.B.Board.seen c.args.b.now).memory c.read_root-root.result noted state ready c.read_root-root.ensures.current.only c.read_noted-noted.ensures.noted c.read_noted-noted.ensures.fits);
    }
