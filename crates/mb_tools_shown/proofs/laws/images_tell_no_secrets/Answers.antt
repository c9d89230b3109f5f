use Rattle.mb_tools_shown.proofs.StateLemmas.{secrets_not_shown, lengths_shown}
use Rattle.mb_tools_shown.proofs.laws.images_tell_no_secrets.Goals as goal

pub returns-clause-secrets : goal.returns-clause-secrets
returns-clause-secrets c = secrets_not_shown

pub returns-clause-lengths : goal.returns-clause-lengths
returns-clause-lengths c = lengths_shown
