use Rattle.std.proofs.Common.{◌∷◌, flat_map}
use Rattle.mb_top.specs.Usage.{group_text, usage_line}
use Rattle.mb_top.proofs.TableLemmas.{appended_in_turn}
use Rattle.mb_top.proofs.table.+put_groups.Goals as goal

pub returns : goal.returns
returns t c =
    appended_in_turn (λ group. group_text group.0.now (flat_map (λ row. usage_line row.1.now (flat_map (λ word. 32 ∷ word.0.now) row.2.now) row.3.now) group.1.now)) c.args.groups.now c.in-Some.groups.now c.in-Some.group.now c.args.text.now.items
    c.put_group.new.text.items c.put_groups.new.text.items c.in-Some.ensures.cases.0 c.put_group.ensures c.put_groups.ensures
