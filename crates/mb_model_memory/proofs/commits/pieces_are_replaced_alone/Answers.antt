use Rattle.mb_model_memory.proofs.FrameLemmas as lemmas
use Rattle.mb_model_memory.proofs.commits.pieces_are_replaced_alone.Goals as goal

pub returns : goal.returns
returns c = record { two = lemmas.two_replaced; three = lemmas.three_replaced; root = lemmas.root_replaced; flash = lemmas.other_flash }
