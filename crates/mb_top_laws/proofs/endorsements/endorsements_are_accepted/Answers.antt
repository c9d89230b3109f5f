use Rattle.mb_top_laws.proofs.EndorsementLemmas as lemmas
use Rattle.mb_top_laws.proofs.endorsements.endorsements_are_accepted.Goals as goal

pub returns : goal.returns
returns c = record { accepted = lemmas.endorsements_are_accepted; empty = lemmas.empty_files_are_refused }
