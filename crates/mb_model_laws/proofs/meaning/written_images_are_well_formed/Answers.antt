use Rattle.mb_model_lemmas.proofs.WrittenImages as lemmas
use Rattle.mb_model_laws.proofs.meaning.written_images_are_well_formed.Goals as goal

pub returns : goal.returns
returns c = record { sized = lemmas.written_is_sized; clean = lemmas.written_memory_is_clean; well_formed = lemmas.written_is_well_formed }
