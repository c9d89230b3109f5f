use Rattle.std.proofs.Common.{arith, length, ◌/◌, refl}
use Rattle.mb_script.proofs.Parts.{fill_sized, tear_read}
use Rattle.mb_script.proofs.words.read_tear.Goals as goal
use Rattle.mb_script.proofs.words.read_tear.Goals.{then-length-eq0-via-then-length-eq0, then-length-eq0-via-else-length-eq0+then-length}

pub returns-then-length-eq0 : goal.returns-then-length-eq0
returns-then-length-eq0 c = λ fill is.
    let sized = fill_sized c.args.word.now fill is in
    elim c.then-length-eq0.branch [
      | then-length-eq0-via-then-length-eq0 w ↦ omega (arith, sized.0, w.if-length-eq0.true)
      | then-length-eq0-via-else-length-eq0+then-length w ↦ omega (arith, sized.1, w.if-length.true)
    ]

pub returns-in-Ok : goal.returns-in-Ok
returns-in-Ok c =
    tear_read c.args.word.now c.decode_to_slice.new.out _ c.args.keep (length c.args.word.now / 2) c.in-Ok.field-0 _ refl refl c.if-length-eq0.false c.if-length.false refl c.in-Ok.ensures.value
