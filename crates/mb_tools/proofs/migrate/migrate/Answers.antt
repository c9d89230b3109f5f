use Rattle.std.proofs.Common.{List, ℕ, refl, ap, ◌∙◌}
use Rattle.mb_model_commands.specs.MigrateCommand.{migrate, migrated_text}
use Rattle.mb_model_commands.specs.Commands.{at_first}
use Rattle.mb_console.specs.Outputs.{writes}
use Rattle.mb_console.proofs.Leading.{begins, reads, stops_at_input, lacks_memory}
use Rattle.mb_tools.proofs.migrate.migrate.Goals as goal

pub returns-in_err-image-clause-carried : goal.returns-in_err-image-clause-carried
unfolding migrate
returns-in_err-image-clause-carried g c = λ final. stops_at_input _ _ _ begins c.from_residual.ensures.1 c.in_err-image.ensures.err refl refl

pub returns-in_default-clause-carried : goal.returns-in_default-clause-carried
unfolding migrate
returns-in_default-clause-carried g c = λ final. lacks_memory (reads begins c.in_ok-image.ensures.read) tt refl refl

pub returns-clause-carried : goal.returns-clause-carried
unfolding migrate writes
returns-clause-carried g c = λ final.
    let is_text = ◌∙◌ {A = List ℕ} c.as_bytes.ensures.value (◌∙◌ {A = List ℕ} c.in-Ok.ensures (ap migrated_text c.deref.ensures.value)) in
    let carried = rw (c.deref-2.ensures.value, is_text) at c.finish.ensures in
    (reads begins c.in_ok-image.ensures.read).lead _ _ (carried at_first final)
