use Rattle.mb_model_memory.proofs.CommitLemmas as lemmas
use Rattle.mb_model_memory.proofs.RestLemmas as rest
use Rattle.mb_model_memory.proofs.commits.work_keeps_the_meaning.Goals as goal

pub returns : goal.returns
returns c = record {
  two = lemmas.two_done_means;
  three = lemmas.three_done_means;
  both = lemmas.both_done_means;
  settled = rest.settled_means;
  stands = lemmas.under_way_stands;
  ends = lemmas.work_ends;
}
