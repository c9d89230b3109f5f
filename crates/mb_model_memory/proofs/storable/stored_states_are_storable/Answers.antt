use Rattle.mb_model_memory.proofs.StorableMemories as lemmas
use Rattle.mb_model_memory.proofs.storable.stored_states_are_storable.Goals as goal

pub returns : goal.returns
returns c = record { stands = lemmas.stands_storable; stood = lemmas.stood_storable; born = lemmas.birth_storable }
