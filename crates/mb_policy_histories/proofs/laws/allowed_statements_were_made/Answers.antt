use Rattle.mb_policy_histories.proofs.TrustLemmas as lemmas
use Rattle.mb_policy_histories.proofs.laws.allowed_statements_were_made.Goals as goal

pub returns : goal.returns
returns c = record {
  read = lemmas.done_trust_allows;
  made = lemmas.allowed_statements_were_made;
  shown = lemmas.shown_statements_can_be_allowed;
  denied = lemmas.denied_statements_are_not_allowed;
}
