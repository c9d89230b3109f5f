use Rattle.mb_call_histories.proofs.MadeLemmas as lemmas
use Rattle.mb_call_histories.proofs.accepted.accepted_calls_were_made.Goals as goal

pub returns : goal.returns
returns c = record { made = lemmas.accepted_calls_were_made; hashes = lemmas.inputs_of_one_hash }
