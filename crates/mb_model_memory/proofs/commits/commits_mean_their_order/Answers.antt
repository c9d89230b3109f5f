use Rattle.mb_model_memory.proofs.CommitLemmas as lemmas
use Rattle.mb_model_memory.proofs.commits.commits_mean_their_order.Goals as goal

pub returns : goal.returns
returns c = record { means = lemmas.commit_means; counted = lemmas.commit_counted; index = lemmas.commit_index; stands = lemmas.commit_stands }
