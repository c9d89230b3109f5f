use Rattle.mb_model_runs.proofs.GrowthLemmas as lemmas
use Rattle.mb_model_runs.proofs.runs.logs_only_grow.Goals as goal

pub returns : goal.returns
returns c = record { each = lemmas.each_log_grows; ends = lemmas.logs_grow }
