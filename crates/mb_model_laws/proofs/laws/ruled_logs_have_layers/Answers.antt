use Rattle.mb_model_lemmas.proofs.RuleLemmas as lemmas
use Rattle.mb_model_laws.proofs.laws.ruled_logs_have_layers.Goals as goal

pub returns : goal.returns
returns c = lemmas.ruled_are_layers
