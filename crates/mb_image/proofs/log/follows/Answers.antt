use Rattle.mb_image.proofs.Following.{follows_where, IfOk-weaker}
use Rattle.mb_image.proofs.log.follows.Goals as goal

pub returns-in-Yes : goal.returns-in-Yes
returns-in-Yes c =
    let e = c.in-Yes.ensures in
    IfOk-weaker _ _ (λ passes verified. follows_where c.args.figures.now c.args.signed.now c.leaf_number.result c.leaf_number.ensures e.0 e.1 passes verified)
    c.verifies.result c.verifies.ensures
