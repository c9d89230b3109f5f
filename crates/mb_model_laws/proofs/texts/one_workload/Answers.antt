use Rattle.mb_model_laws.proofs.WorkloadLemmas as lemmas
use Rattle.mb_model_laws.proofs.texts.one_workload.Goals as goal

pub returns : goal.returns
returns c = lemmas.one_workload
