use Rattle.mb_model_histories.proofs.ChainSightLemmas as lemmas
use Rattle.mb_model_histories.proofs.sight.chains_tell_of_the_log_alone.Goals as goal

pub returns : goal.returns
returns c = record { alone = lemmas.chains_tell_of_the_log_alone; whole = lemmas.chains_tell_of_the_whole_log }
