use Rattle.mb_model_histories.proofs.BornLemmas as lemmas
use Rattle.mb_model_histories.proofs.histories.histories_begin_at_a_birth.Goals as goal

pub returns : goal.returns
returns c = record { maker = lemmas.born_of_their_maker; unsigned = lemmas.births_may_be_unsigned; accepted = lemmas.all_stay_accepted }
