use Rattle.std.proofs.Common.{sym, ◌∙◌}
use Rattle.mb_model.specs.machine.LayerEvents.{has_number}
use Rattle.mb_bytes.proofs.Putting.{item_at}
use Rattle.mb_layout_edits.proofs.Rows.{find_here, find_on, find_none}
use Rattle.mb_layout_edits.proofs.row.key_of.Goals as goal

pub returns-then-is_numbered : goal.returns-then-is_numbered
returns-then-is_numbered c =
    let list = c.args.keys.now in
    let i = c.loop-key.key-index in
    sym (find_here (has_number c.args.number) list i _ (item_at list i _ c.loop-key-test.true) (sym c.if-is_numbered.ensures)) ∙ c.loop-key.invariant

pub loop-key-preserved : goal.loop-key-preserved
loop-key-preserved c =
    let list = c.args.keys.now in
    let i = c.loop-key.key-index in
    find_on (has_number c.args.number) list i _ (item_at list i _ c.loop-key-test.true) (sym c.if-is_numbered.ensures) ∙ c.loop-key.invariant

pub returns : goal.returns
returns c = sym (find_none (has_number c.args.number) c.args.keys.now c.loop-key.key-index c.loop-key-test.false) ∙ c.loop-key.invariant
