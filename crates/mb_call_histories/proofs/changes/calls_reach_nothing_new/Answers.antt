use Rattle.mb_call_histories.proofs.ReachLemmas as lemmas
use Rattle.mb_call_histories.proofs.changes.calls_reach_nothing_new.Goals as goal

pub returns : goal.returns
returns c = record { reach = lemmas.calls_reach_nothing_new; bytes = lemmas.outputs }
