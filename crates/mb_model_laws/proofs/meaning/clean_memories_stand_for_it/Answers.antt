use Rattle.mb_model_lemmas.proofs.FaultLemmas as lemmas
use Rattle.mb_model_laws.proofs.meaning.clean_memories_stand_for_it.Goals as goal

pub returns : goal.returns
returns c = record { live = lemmas.clean_stands_for_it; dead = lemmas.blank_is_dead }
