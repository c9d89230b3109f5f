use Rattle.mb_model_histories.proofs.PowerLemmas as lemmas
use Rattle.mb_model_histories.proofs.power.runs_are_determined.Goals as goal

pub returns : goal.returns
returns c = record {
  runs = lemmas.runs_are_determined;
  memory = lemmas.memory_is_not_determined;
  cuts = lemmas.one_choice_a_cut;
  either = lemmas.either_is_left;
}
