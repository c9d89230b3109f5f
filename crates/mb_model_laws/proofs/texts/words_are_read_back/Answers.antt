use Rattle.mb_model_lemmas.proofs.WordLemmas as lemmas
use Rattle.mb_model_laws.proofs.texts.words_are_read_back.Goals as goal

pub returns : goal.returns
returns c = lemmas.hex_word-read
