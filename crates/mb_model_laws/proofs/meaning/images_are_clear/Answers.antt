use Rattle.mb_model_lemmas.proofs.FaultLemmas as lemmas
use Rattle.mb_model_laws.proofs.meaning.images_are_clear.Goals as goal

pub returns : goal.returns
returns c = record { fault = lemmas.one_fault; none = lemmas.well_formed_has_no_fault; either = lemmas.well_formed_or_faulty; state = lemmas.well_formed_stands_for_one }
