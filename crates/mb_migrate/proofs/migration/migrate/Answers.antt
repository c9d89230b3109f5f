use Rattle.mb_migrate.proofs.Migrations.{is_migrated, keeps_state}
use Rattle.mb_migrate.proofs.migration.migrate.Goals as goal

pub returns-clause-migrated : goal.returns-clause-migrated
returns-clause-migrated g c = is_migrated c.args.image.now c.in_ok-write_image.field-0.items c.in_ok-state.state c.in_ok-state.ensures.stands c.in_ok-write_image.ensures

pub returns-clause-kept : goal.returns-clause-kept
returns-clause-kept g c = keeps_state c.args.image.now c.in_ok-write_image.field-0.items c.in_ok-state.state c.in_ok-state.ensures.stands c.in_ok-write_image.ensures
