use Rattle.mb_model_histories.proofs.HistoryLemmas as lemmas
use Rattle.mb_model_histories.proofs.histories.histories_are_runs.Goals as goal

pub returns : goal.returns
returns c = record { worlds = lemmas.histories_have_worlds; histories = lemmas.worlds_have_histories; whole = lemmas.histories_are_runs; part = lemmas.runs_lead }
