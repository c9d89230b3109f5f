use Rattle.mb_call_histories.proofs.BytesLemmas as lemmas
use Rattle.mb_call_histories.proofs.accepted.statements_keep_their_bytes.Goals as goal

pub returns : goal.returns
returns c = record { keep = lemmas.statements_keep_their_bytes; apart = lemmas.calls_have_other_bytes }
