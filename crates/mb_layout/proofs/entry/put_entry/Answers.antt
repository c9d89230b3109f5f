use Rattle.mb_model.specs.records.EntryFormat.{change_format, new_key_format, succession_format, entry_format}
use Rattle.mb_bytes.proofs.Putting.{puts_both}
use Rattle.mb_layout.proofs.entry.put_entry.Goals as goal

pub returns-in_ok-put_u32-in-Change-2 : goal.returns-in_ok-put_u32-in-Change-2
unfolding change_format entry_format
returns-in_ok-put_u32-in-Change-2 c =
    let r = c.put_changed.result in
    rw c.in-Change.is (puts_both _ _ r (rw c.change_number.ensures at c.in_ok-put_u8-in-Change.ensures.puts) (puts_both _ _ r c.in_ok-put_u32-in-Change.ensures.puts (puts_both _ _ r c.in_ok-put_u32-in-Change-2.ensures.puts c.put_changed.ensures)))

pub returns-in_ok-put_u32-in-NewKey-2 : goal.returns-in_ok-put_u32-in-NewKey-2
unfolding new_key_format entry_format
returns-in_ok-put_u32-in-NewKey-2 c =
    let r = c.put_made_key.result in
    rw c.in-NewKey.is (puts_both _ _ r c.in_ok-put_u8-in-NewKey.ensures.puts (puts_both _ _ r c.in_ok-put_u32-in-NewKey.ensures.puts (puts_both _ _ r c.in_ok-put_u32-in-NewKey-2.ensures.puts c.put_made_key.ensures)))

pub returns-in_ok-put_u32-in-Succession : goal.returns-in_ok-put_u32-in-Succession
unfolding succession_format entry_format
returns-in_ok-put_u32-in-Succession c =
    let r = c.put_public_key-in-Succession.result in
    rw c.in-Succession.is (puts_both _ _ r c.in_ok-put_u8-in-Succession.ensures.puts (puts_both _ _ r c.in_ok-put_u32-in-Succession.ensures.puts c.put_public_key-in-Succession.ensures))
