use Rattle.mb_model_lemmas.proofs.RuleLemmas as lemmas
use Rattle.mb_model_laws.proofs.laws.layers_stay_layers.Goals as goal

pub returns : goal.returns
returns c = lemmas.after_are_layers
