use Rattle.std.proofs.Common.{sym, ◌∙◌}
use Rattle.mb_appvm.proofs.Tables.{added_new, added_again}
use Rattle.mb_appvm.proofs.table.Labels.add.Goals as goal

pub returns-in_ok-insert : goal.returns-in_ok-insert
returns-in_ok-insert c =
    added_new c.args.self.now c.insert.new.self c.args.name.now c.args.at (sym c.contains_key.ensures ∙ c.if-not-contains_key.true) c.in_ok-insert.ensures.updates

pub returns-else-not-contains_key : goal.returns-else-not-contains_key
returns-else-not-contains_key c = added_again c.args.self.now c.args.name.now c.args.at (sym c.contains_key.ensures ∙ c.if-not-contains_key.false)
