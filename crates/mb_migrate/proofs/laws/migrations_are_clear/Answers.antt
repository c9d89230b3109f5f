use Rattle.mb_migrate.proofs.Migrations as lemmas
use Rattle.mb_migrate.proofs.laws.migrations_are_clear.Goals as goal

pub returns : goal.returns
returns c = record { one = lemmas.migrates_to_one; kept = lemmas.migration_keeps_state; again = lemmas.migrated_stays_so; cannot = lemmas.migrates_or_cannot }
