use Rattle.mb_image.proofs.Following.{first_is_verified, none_verifies, verified_by}
use Rattle.mb_image.proofs.log.verifies.Goals as goal

pub returns-then-figures-eq0 : goal.returns-then-figures-eq0
returns-then-figures-eq0 c = first_is_verified c.args.figures.now c.args.signed.now c.if-figures-eq0.true

pub returns-in_default : goal.returns-in_default
returns-in_default c = none_verifies c.args.figures.now c.args.signed.now c.if-figures-eq0.false c.in_default.is

pub returns : goal.returns
returns c =
    verified_by c.args.figures.now c.args.signed.now c.in-Some.key c.if-figures-eq0.false c.in-Some.is c.certifies.result
    c.certifies.ensures
