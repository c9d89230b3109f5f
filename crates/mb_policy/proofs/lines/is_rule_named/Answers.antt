use Rattle.std.proofs.Common.{sym, ap, ◌∙◌}
use Rattle.mb_policy.specs.Meanings.{line_has_rule}
use Rattle.mb_policy.proofs.Names.{named_is}
use Rattle.mb_policy.proofs.lines.is_rule_named.Goals as goal

pub returns-in-Rule : goal.returns-in-Rule
returns-in-Rule c =
    named_is c.as_slice.result.now c.in-Rule.rule.name c.args.name.now c.eq.ensures c.as_slice.ensures ∙ sym (ap (line_has_rule c.args.name.now) c.in-Rule.is)
