use Rattle.mb_model_lemmas.proofs.DrawLemmas as lemmas
use Rattle.mb_model_laws.proofs.texts.draws_in_turn.Goals as goal

pub returns : goal.returns
returns c = record { turn = lemmas.drawn-push; count = lemmas.drawn-length }
