use Rattle.std.proofs.Common.{[]}
use Rattle.mb_lms.proofs.checker.verify.Goals as goal

pub returns : goal.returns
returns c =
    let key = c.args.key.now in
    let sig = c.args.sig.now in
    c.finish.ensures key _ (c.feed-2.ensures key sig _ (c.feed.ensures key sig [] c.in-Some.ensures.checking))
