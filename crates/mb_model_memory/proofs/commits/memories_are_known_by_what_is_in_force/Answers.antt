use Rattle.mb_model_memory.proofs.FrameLemmas as lemmas
use Rattle.mb_model_memory.proofs.commits.memories_are_known_by_what_is_in_force.Goals as goal

pub returns : goal.returns
returns c = record { same = lemmas.state_agrees; turned = lemmas.agreement_turned; dead = lemmas.dead_flash }
