use Rattle.mb_model_lemmas.proofs.LogLemmas as lemmas
use Rattle.mb_model_laws.proofs.laws.the_last_counts.Goals as goal

pub returns : goal.returns
returns c = record { layers = lemmas.layers_of-split; device = lemmas.device_of-split; used = lemmas.used-split }
