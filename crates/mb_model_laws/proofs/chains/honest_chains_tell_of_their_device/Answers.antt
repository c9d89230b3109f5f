use Rattle.mb_model_lemmas.proofs.ChainLemmas as lemmas
use Rattle.mb_model_lemmas.proofs.AuditLemmas as audits
use Rattle.mb_model_laws.proofs.chains.honest_chains_tell_of_their_device.Goals as goal

pub returns : goal.returns
returns c = record { prefix = lemmas.honest_is_prefix; audited = audits.audited }
