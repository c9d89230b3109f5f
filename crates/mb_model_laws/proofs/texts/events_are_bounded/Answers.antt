use Rattle.mb_model_lemmas.proofs.EventLemmas as lemmas
use Rattle.mb_model_laws.proofs.texts.events_are_bounded.Goals as goal

pub returns : goal.returns
returns c = lemmas.too_many_events
