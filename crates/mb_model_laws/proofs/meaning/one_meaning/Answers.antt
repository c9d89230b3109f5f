use Rattle.mb_model_lemmas.proofs.MeaningLemmas as lemmas
use Rattle.mb_model_laws.proofs.meaning.one_meaning.Goals as goal

pub returns : goal.returns
returns c = record { contents = lemmas.one_contents; state = lemmas.one_meaning }
