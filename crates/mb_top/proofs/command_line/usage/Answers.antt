use Rattle.mb_top.specs.Usage.{usage}
use Rattle.mb_top.proofs.TableLemmas.{in_three_parts}
use Rattle.mb_top.proofs.command_line.usage.Goals as goal

pub returns : goal.returns
unfolding usage
returns c = in_three_parts _ _ _ _ _ _ _ c.new-text.ensures c.put.ensures.items c.put_groups.ensures c.put-2.ensures.items
