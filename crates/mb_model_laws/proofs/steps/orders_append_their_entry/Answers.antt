use Rattle.mb_model_lemmas.proofs.OwnEntries as lemmas
use Rattle.mb_model_laws.proofs.steps.orders_append_their_entry.Goals as goal

pub returns : goal.returns
returns c = lemmas.appends_own
