use Rattle.mb_model_histories.proofs.VeilLemmas as lemmas
use Rattle.mb_model_histories.proofs.sight.hidden_values_are_not_seen.Goals as goal

pub returns : goal.returns
returns c = record {
  steps = lemmas.hidden_values_are_not_seen;
  runs = lemmas.hidden_values_are_not_seen_in_runs;
  answers = lemmas.hidden_values_change_no_answer;
  asked = lemmas.asked_values_are_seen;
}
