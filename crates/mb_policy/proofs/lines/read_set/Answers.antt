use Rattle.mb_policy.proofs.ItemLines.{set_taken, set_made}
use Rattle.mb_policy.proofs.lines.read_set.Goals as goal

pub returns-then-is_some : goal.returns-then-is_some
returns-then-is_some c =
    set_taken c.args.before.now c.args.words.now c.take.new.self c.in-Some.name.now c.find_set.result c.is_some.result c.in-Some.ensures c.find_set.ensures c.is_some.ensures c.if-is_some.true

pub returns-in-Ok : goal.returns-in-Ok
returns-in-Ok c =
    set_made c.args.before.now c.args.words.now c.take.new.self c.in-Some.name.now c.find_set.result c.is_some.result c.in-Ok.hashes c.make_set.result c.in-Some.ensures
    (c.is_name.ensures.0 c.if-not-is_name.false) c.find_set.ensures c.is_some.ensures c.if-is_some.false c.in-Ok.ensures c.make_set.ensures
