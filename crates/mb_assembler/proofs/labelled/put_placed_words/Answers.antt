use Rattle.mb_bytes.proofs.Putting.{puts_both}
use Rattle.mb_assembler.proofs.labelled.put_placed_words.Goals as goal

pub returns : goal.returns
returns c = puts_both _ c.put_numbered.new.out c.put_numbered.result c.in_ok-put_instruction.ensures c.put_numbered.ensures
