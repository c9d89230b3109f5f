use Rattle.std.proofs.Common.{refl}
use Rattle.mb_verifier.proofs.Judging.{uncertified, in_place, out_of_place}
use Rattle.mb_verifier.proofs.entries.check.Goals as goal

pub returns-then-not-is_certified-clause-refused : goal.returns-then-not-is_certified-clause-refused
returns-then-not-is_certified-clause-refused c = (refl, uncertified _ _ c.if-not-is_certified.true c.is_certified.ensures)

pub returns-in-Order-clause-refused : goal.returns-in-Order-clause-refused
returns-in-Order-clause-refused c =
    let wrong = c.in-Order.ensures in (
      refl,
      c.is_certified.ensures.0 c.if-not-is_certified.false,
      out_of_place c.args.figures.now c.args.signed.now c.leaf_number.result c.leaf_number.ensures wrong.0 wrong.1,
    )

pub returns-in-Rules-clause-refused : goal.returns-in-Rules-clause-refused
returns-in-Rules-clause-refused c =
    let wrong = c.in-Rules.ensures in (
      refl,
      c.is_certified.ensures.0 c.if-not-is_certified.false,
      in_place c.args.figures.now c.args.signed.now c.leaf_number.result c.leaf_number.ensures wrong.0,
      wrong.1,
    )
