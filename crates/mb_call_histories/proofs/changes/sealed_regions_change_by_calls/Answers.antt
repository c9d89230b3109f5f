use Rattle.mb_call_histories.proofs.SealedLemmas as lemmas
use Rattle.mb_call_histories.proofs.changes.sealed_regions_change_by_calls.Goals as goal

pub returns : goal.returns
returns c = record { change = lemmas.sealed_regions_change_by_calls; tell = lemmas.sealed_regions_answer_nothing; unsealed = lemmas.open_regions_are_anybodys }
