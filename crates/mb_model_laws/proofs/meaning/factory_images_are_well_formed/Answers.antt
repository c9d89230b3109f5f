use Rattle.mb_model_lemmas.proofs.FactoryLemmas as lemmas
use Rattle.mb_model_laws.proofs.meaning.factory_images_are_well_formed.Goals as goal

pub returns : goal.returns
returns c = lemmas.factory_is_well_formed
