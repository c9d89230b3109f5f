use Rattle.mb_model_lemmas.proofs.Determined.{runs_see_nothing_else}
use Rattle.mb_appvm.proofs.laws.runs_see_nothing_else.Goals as goal

pub returns : goal.returns
returns c = runs_see_nothing_else
