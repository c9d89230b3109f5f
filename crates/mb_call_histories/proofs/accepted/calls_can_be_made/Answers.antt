use Rattle.mb_call_histories.proofs.SilentLemmas as lemmas
use Rattle.mb_call_histories.proofs.accepted.calls_can_be_made.Goals as goal

pub returns : goal.returns
returns c = record { shown = lemmas.calls_can_be_made; silent = lemmas.halting_code_answers_nothing }
