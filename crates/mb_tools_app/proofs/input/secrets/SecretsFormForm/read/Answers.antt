use Rattle.mb_tools_app.proofs.CallcodeLemmas.{read_are_kept}
use Rattle.mb_tools_app.proofs.input.secrets.SecretsFormForm.read.Goals as goal

pub returns-in-Ok-clause-keeps : goal.returns-in-Ok-clause-keeps
returns-in-Ok-clause-keeps c = read_are_kept c.in-Ok.ensures.lines c.in-Ok.secrets c.in-Ok.ensures.stands
