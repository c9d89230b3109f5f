use Rattle.mb_model_runs.proofs.CleanLemmas as lemmas
use Rattle.mb_model_runs.proofs.runs.answers_leave_clean.Goals as goal

pub returns : goal.returns
returns c = lemmas.answers_leave_clean
