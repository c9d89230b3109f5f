use Rattle.std.proofs.Common.{◌∷◌, flat_map}
use Rattle.mb_top.specs.Usage.{usage_line}
use Rattle.mb_top.proofs.TableLemmas.{appended_in_turn}
use Rattle.mb_top.proofs.table.+put_rows.Goals as goal

pub returns : goal.returns
returns t c =
    appended_in_turn (λ row. usage_line row.1.now (flat_map (λ word. 32 ∷ word.0.now) row.2.now) row.3.now) c.args.rows.now c.in-Some.rows.now c.in-Some.row.now c.args.text.now.items
    c.put_row.new.text.items c.put_rows.new.text.items c.in-Some.ensures.cases.0 c.put_row.ensures c.put_rows.ensures
