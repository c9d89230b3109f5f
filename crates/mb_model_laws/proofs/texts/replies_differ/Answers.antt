use Rattle.mb_model_laws.proofs.ReplyLemmas as lemmas
use Rattle.mb_model_laws.proofs.texts.replies_differ.Goals as goal

pub returns : goal.returns
returns c = lemmas.reply_line-same
