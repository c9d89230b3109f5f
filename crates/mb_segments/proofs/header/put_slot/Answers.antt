use Rattle.mb_model.specs.records.HeaderFormat.{slot_format}
use Rattle.mb_bytes.proofs.Putting.{puts_both}
use Rattle.mb_segments.proofs.Spelled.{code_length_spelling}
use Rattle.mb_segments.proofs.header.put_slot.Goals as goal

pub returns : goal.returns
unfolding slot_format
returns c =
    let r = c.put_u32.result in
    rw (code_length_spelling c.args.slot.which c.args.slot.length) (puts_both _ _ r c.in_ok-put_u8.ensures.puts c.put_u32.ensures.puts)
