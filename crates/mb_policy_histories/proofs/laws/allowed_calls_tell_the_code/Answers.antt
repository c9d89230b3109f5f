use Rattle.mb_policy_histories.proofs.CodeLemmas as lemmas
use Rattle.mb_policy_histories.proofs.laws.allowed_calls_tell_the_code.Goals as goal

pub returns : goal.returns
returns c = record { code = lemmas.allowed_calls_tell_the_code; asks = lemmas.code_policies_ask_for_code; messages = lemmas.messages_are_no_answers }
