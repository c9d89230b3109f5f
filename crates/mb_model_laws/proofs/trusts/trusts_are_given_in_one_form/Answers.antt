use Rattle.mb_model.proofs.OrderFormatLaws as lemmas
use Rattle.mb_model_laws.proofs.trusts.trusts_are_given_in_one_form.Goals as goal

pub returns : goal.returns
returns c = record { some = lemmas.given_allowed; one = lemmas.given_differ }
