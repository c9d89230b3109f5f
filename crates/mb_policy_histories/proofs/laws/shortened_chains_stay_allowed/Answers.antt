use Rattle.mb_policy_histories.proofs.ShorteningLemmas as lemmas
use Rattle.mb_policy_histories.proofs.laws.shortened_chains_stay_allowed.Goals as goal

pub returns : goal.returns
returns c = record {
  reports = lemmas.shortened_reports_stay_allowed;
  chains = lemmas.shortened_chains_shorten_reports;
  ends = lemmas.ends_matter;
  allows = lemmas.shortening_can_allow;
}
