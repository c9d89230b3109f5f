use Rattle.mb_model_lemmas.proofs.RuleLemmas as lemmas
use Rattle.mb_model_laws.proofs.laws.runs_over_reliable.Goals as goal

pub returns : goal.returns
returns c = record { each = lemmas.to_each; all = lemmas.from_each }
