use Rattle.mb_model_lemmas.proofs.AliveLemmas as lemmas
use Rattle.mb_model_laws.proofs.alive.key_numbers_increase.Goals as goal

pub returns : goal.returns
returns c = record { increase = lemmas.alive_increase; below = lemmas.alive_below; unmade = lemmas.high_is_unmade }
