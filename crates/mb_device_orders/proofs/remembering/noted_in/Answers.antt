use Rattle.std.proofs.Common.{arith}
use Rattle.mb_format.specs.Format.{IsBytes}
use Rattle.mb_segments.specs.Uncopied.{header_of}
use Rattle.mb_device_orders.proofs.Remembered.{header_noted, fits_noted}
use Rattle.mb_device_orders.proofs.remembering.noted_in.Goals as goal

pub returns-in-Some-clause-noted : goal.returns-in-Some-clause-noted
returns-in-Some-clause-noted c = λ header begins. (
    let are : IsBytes c.args.sector.now = λ i. omega (arith, c.type_inv.sector i) in
    header_noted c.args.sector.now (header_of c.in-Some.header) header are c.in-Some.ensures begins)

pub returns-in-Some-clause-fits : goal.returns-in-Some-clause-fits
returns-in-Some-clause-fits c = fits_noted c.args.sector.now (header_of c.in-Some.header) c.in-Some.ensures

pub returns-in-None-clause-noted : goal.returns-in-None-clause-noted
returns-in-None-clause-noted c = λ header begins. absurd (c.in-None.ensures header begins)
