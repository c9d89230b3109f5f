use Rattle.mb_model_histories.proofs.OwnerLemmas as owners
use Rattle.mb_model_histories.proofs.SinceLemmas as lemmas
use Rattle.mb_model_histories.proofs.owners.regions_keep_their_owner.Goals as goal

pub returns : goal.returns
returns c = record { secrets = lemmas.secrets_keep_their_owner; keys = lemmas.keys_keep_their_owner; before = owners.nobody_owns_before_the_birth }
