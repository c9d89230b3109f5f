use Rattle.mb_model_histories.proofs.HistoryLemmas as lemmas
use Rattle.mb_model_histories.proofs.histories.histories_are_sound.Goals as goal

pub returns : goal.returns
returns c = record { valid = lemmas.histories_stay_valid; logs = lemmas.logs_grow_over_histories; once = lemmas.histories_sign_once }
