use Rattle.mb_model_lemmas.proofs.RegionLemmas as lemmas
use Rattle.mb_model_laws.proofs.laws.unreliable_regions_are_empty.Goals as goal

pub returns : goal.returns
returns c = lemmas.unreliable_is_empty
