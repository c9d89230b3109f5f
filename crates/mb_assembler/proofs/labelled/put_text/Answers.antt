use Rattle.mb_bytes.proofs.Putting.{puts_both}
use Rattle.mb_assembler.proofs.labelled.put_text.Goals as goal

pub returns : goal.returns
returns c = puts_both _ c.put_placed_line.new.out c.put_placed_line.result c.in_ok-put_label_line.ensures c.put_placed_line.ensures
