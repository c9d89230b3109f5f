use Rattle.std.proofs.Common.{arith}
use Rattle.mb_format.specs.Format.{IsBytes}
use Rattle.mb_segments.specs.Uncopied.{header_of}
use Rattle.mb_image.proofs.Sectors.{entries_counted}
use Rattle.mb_image.proofs.count.count_entries.Goals as goal

pub returns-in-Some : goal.returns-in-Some
returns-in-Some c = λ codes signed unsigned holds.
    let are : IsBytes c.args.flash.now = λ i. omega (arith, c.type_inv.flash i) in
    let count = entries_counted c.args.flash.now c.args.root.now (header_of c.in-Some.header) are c.in-Some.ensures.found codes signed unsigned holds in
    omega (arith, count, c.text_count.ensures)

pub returns-in-None : goal.returns-in-None
returns-in-None c = λ codes signed unsigned holds. absurd (c.in-None.ensures.found holds.header holds.begins)
