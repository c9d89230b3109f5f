use Rattle.mb_model_histories.proofs.AgreementLemmas as lemmas
use Rattle.mb_model_histories.proofs.agreement.honest_chains_agree.Goals as goal

pub returns : goal.returns
returns c = record { agree = lemmas.honest_chains_agree; own = lemmas.own_chains_are_honest; part = lemmas.replayed_images_part }
