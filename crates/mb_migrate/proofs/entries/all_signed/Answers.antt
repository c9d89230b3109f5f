use Rattle.mb_migrate.proofs.EntryLists.{one_unsigned}
use Rattle.mb_migrate.proofs.entries.all_signed.Goals as goal

pub returns-in_default : goal.returns-in_default
returns-in_default c = one_unsigned c.args.entries.now c.loop-stored.stored-index _ c.loop-stored-test.true c.in_default.is
