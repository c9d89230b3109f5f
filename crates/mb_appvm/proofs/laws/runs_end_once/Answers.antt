use Rattle.mb_model_lemmas.proofs.Determined.{runs_end_once}
use Rattle.mb_appvm.proofs.laws.runs_end_once.Goals as goal

pub returns : goal.returns
returns c = runs_end_once
