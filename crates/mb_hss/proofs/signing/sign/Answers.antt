use Rattle.std.proofs.Common.{◌++◌, arith}
use Rattle.mb_hss.proofs.MakerLemmas.{length-maker_signature}
use Rattle.mb_hss.proofs.signing.sign.Goals as goal

pub returns-in_err-reserve-clause-room : goal.returns-in_err-reserve-clause-room
returns-in_err-reserve-clause-room g c = λ _.
    omega (
      arith,
      c.in_err-reserve.ensures.full,
      c.signature_length.ensures,
      length-maker_signature c.args.maker.now c.args.maker.now.next (c.args.head.now ++ c.args.body.now) c.requires.least,
    )
