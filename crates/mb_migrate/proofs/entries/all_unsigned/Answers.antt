use Rattle.std.proofs.Common.{sym, ◌∙◌}
use Rattle.mb_migrate.proofs.EntryLists.{one_signed}
use Rattle.mb_migrate.proofs.entries.all_unsigned.Goals as goal

pub returns-then-is_some : goal.returns-then-is_some
returns-then-is_some c = one_signed c.args.entries.now c.loop-stored.stored-index _ c.loop-stored-test.true (sym c.is_some.ensures ∙ c.if-is_some.true)
