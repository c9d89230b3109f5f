use Rattle.std.proofs.Common.{arith}
use Rattle.mb_format.specs.Format.{IsBytes}
use Rattle.mb_model_lemmas.proofs.OneFlash.{one_header_begun}
use Rattle.mb_segments.specs.Uncopied.{header_of}
use Rattle.mb_boot.proofs.Completed.{texts_have_room}
use Rattle.mb_boot.proofs.pending.held_header.Goals as goal

pub returns-clause-only : goal.returns-clause-only
returns-clause-only c = λ any begins. (
    let are : IsBytes c.args.sector.now = λ i. omega (arith, c.type_inv.sector i) in
    one_header_begun c.args.sector.now any (header_of c.in-Some.header) are begins c.in-Some.ensures)

pub returns-clause-few : goal.returns-clause-few
returns-clause-few c = texts_have_room (header_of c.in-Some.header) c.in-Some.ensures.spelled.allowed
