use Rattle.std.proofs.Common.{◌∙◌, arith}
use Rattle.mb_format.specs.Format.{IsBytes}
use Rattle.mb_device_orders.proofs.Remembered.{no_entry, text_short, entry_told}
use Rattle.mb_device_orders.proofs.remembering.entry_in.Goals as goal

pub returns-in_err-stored : goal.returns-in_err-stored
returns-in_err-stored c = λ signed holds. absurd (no_entry c.args.sector.now signed c.in_err-stored.ensures holds)

pub new-cursor-requires : goal.new-cursor-requires
new-cursor-requires c = omega (arith, text_short c.args.sector.now _ _ c.in_ok-stored.ensures)

pub returns : goal.returns
returns c = λ signed holds. (
    let are : IsBytes c.args.sector.now = λ i. omega (arith, c.type_inv.sector i) in
    c.ok.ensures.value
    ∙ entry_told c.args.sector.now c.in_ok-stored.stored.text.now c.in_ok-stored.stored.signature signed c.new-cursor.result c.read_entry.new.c c.read_entry.result are c.new-cursor.result.are_bytes c.in_ok-stored.ensures holds c.new-cursor.ensures.all c.new-cursor.ensures.first
    c.read_entry.ensures)
