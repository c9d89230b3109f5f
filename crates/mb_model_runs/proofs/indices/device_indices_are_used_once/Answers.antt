use Rattle.mb_model_runs.proofs.IndexLemmas as lemmas
use Rattle.mb_model_runs.proofs.indices.device_indices_are_used_once.Goals as goal

pub returns : goal.returns
returns c = record { charge = lemmas.each_has_in_charge; index = lemmas.indices_count; once = lemmas.signs_entries_once }
