use Rattle.mb_model_laws.proofs.ReplyLemmas as lemmas
use Rattle.mb_model_laws.proofs.texts.refusals_have_words.Goals as goal

pub returns : goal.returns
returns c = lemmas.has_words
