use Rattle.mb_call_histories.proofs.AnswerLemmas as lemmas
use Rattle.mb_call_histories.proofs.changes.calls_count_wholly.Goals as goal

pub returns : goal.returns
returns c = record { wholly = lemmas.calls_count_wholly; called = lemmas.called_is_what_code_says }
