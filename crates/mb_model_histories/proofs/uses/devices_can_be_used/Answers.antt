use Rattle.mb_model_histories.proofs.UseLemmas as lemmas
use Rattle.mb_model_histories.proofs.uses.devices_can_be_used.Goals as goal

pub returns : goal.returns
returns c = record { keys = lemmas.keys_can_be_made; statements = lemmas.statements_can_be_made }
