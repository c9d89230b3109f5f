use Rattle.mb_tools_app.proofs.AppcodeLemmas.{appcode_runs_as_app}
use Rattle.mb_tools_app.proofs.laws.appcode_runs_as_app.Goals as goal

pub returns : goal.returns
returns c = appcode_runs_as_app
