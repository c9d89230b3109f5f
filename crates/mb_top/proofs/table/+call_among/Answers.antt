use Rattle.mb_top.proofs.TableLemmas.{not_first}
use Rattle.mb_top.proofs.table.+call_among.Goals as goal

pub returns-in-None : goal.returns-in-None
returns-in-None t c = not_first _ c.args.rows.now c.in-Some.rows.now c.in-Some.row.now _ c.call_among.result _ _ c.in-Some.ensures.cases.0 c.in-None.ensures c.call_among.ensures
