use Rattle.mb_tools_app.proofs.SeeingLemmas.{app_sees_nothing_else}
use Rattle.mb_tools_app.proofs.laws.app_sees_nothing_else.Goals as goal

pub returns : goal.returns
returns c = app_sees_nothing_else
