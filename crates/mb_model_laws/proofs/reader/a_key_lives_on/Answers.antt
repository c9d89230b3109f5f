use Rattle.mb_model_lemmas.proofs.ReaderLemmas as lemmas
use Rattle.mb_model_laws.proofs.reader.a_key_lives_on.Goals as goal

pub returns : goal.returns
returns c = record {
  key = lemmas.stays_made;
  alive = lemmas.stays_alive;
  lives = lemmas.lives_on;
}
