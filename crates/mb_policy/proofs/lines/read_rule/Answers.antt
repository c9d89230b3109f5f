use Rattle.std.proofs.Common.{sym, ◌∙◌}
use Rattle.mb_policy.proofs.ItemLines.{rule_taken, other_name, rule_made}
use Rattle.mb_policy.proofs.lines.read_rule.Goals as goal

pub returns-then-has_rule : goal.returns-then-has_rule
returns-then-has_rule c =
    rule_taken c.args.allows c.args.before.now c.args.words.now c.take.new.self c.in-Some.name.now c.has_rule.result c.in-Some.ensures c.has_rule.ensures c.if-has_rule.true

pub returns-in-Ok : goal.returns-in-Ok
returns-in-Ok c =
    rule_made c.args.allows c.args.before.now c.args.words.now c.take.new.self c.in-Some.name.now c.in-Ok.test c.make_rule.result c.in-Some.ensures
    (c.is_name.ensures.0 c.if-not-is_name.false)
    (other_name c.eq.result c.in-Some.name.now c.as_slice.result.now c.eq.ensures c.as_slice.ensures c.if-eq.false) (sym c.has_rule.ensures ∙ c.if-has_rule.false) c.in-Ok.ensures c.make_rule.ensures
