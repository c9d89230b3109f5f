use Rattle.mb_model_histories.proofs.AgreementLemmas as lemmas
use Rattle.mb_model_histories.proofs.agreement.honest_chains_tell_of_one_device.Goals as goal

pub returns : goal.returns
returns c = record { one = lemmas.honest_chains_tell_of_one_device; empty = lemmas.nothing_is_of_no_device; alone = lemmas.honest_among_one_is_honest }
