use Rattle.std.proofs.Common.{sym, ap, ◌∙◌}
use Rattle.mb_policy.specs.Meanings.{line_has_set}
use Rattle.mb_policy.proofs.Names.{named_is}
use Rattle.mb_policy.proofs.operands.is_set_named.Goals as goal

pub returns-in-Set : goal.returns-in-Set
returns-in-Set c =
    named_is c.as_slice.result.now c.in-Set.set.name c.args.name.now c.eq.ensures c.as_slice.ensures ∙ sym (ap (line_has_set c.args.name.now) c.in-Set.is)
