use Rattle.std.proofs.Common.{rules}
use Rattle.mb_top.proofs.TableLemmas.{in_first_group, in_later_group, fit_first, fit_later}
use Rattle.mb_top.proofs.table.+call_in.Goals as goal

pub call_among-requires : goal.call_among-requires
call_among-requires t c = fit_first _ _ c.args.groups.now c.in-Some.groups.now c.in-Some.group.now c.in-Some.ensures.cases.0 c.requires

pub call_in-requires : goal.call_in-requires
call_in-requires t c = (search rules, fit_later _ _ c.args.groups.now c.in-Some.groups.now c.in-Some.group.now c.in-Some.ensures.cases.0 c.requires)

pub returns-in-Some-call_among : goal.returns-in-Some-call_among
returns-in-Some-call_among t c = in_first_group _ c.args.groups.now c.in-Some.groups.now c.in-Some.group.now _ _ _ c.in-Some.ensures.cases.0 c.in-Some-call_among.ensures

pub returns-in-None : goal.returns-in-None
returns-in-None t c = in_later_group _ c.args.groups.now c.in-Some.groups.now c.in-Some.group.now _ c.call_in.result _ _ c.in-Some.ensures.cases.0 c.in-None.ensures c.call_in.ensures
