use Rattle.std.proofs.Common.{refl}
use Rattle.mb_library.specs.Judging.{report_denied}
use Rattle.mb_library.proofs.judging.judge.Goals as goal

pub returns-in-Ok-Denied : goal.returns-in-Ok-Denied
returns-in-Ok-Denied c = report_denied _ _ refl c.of_configuration.ensures (rw c.in-Ok-Denied.field-0-is at c.in-Ok-Denied.ensures)
