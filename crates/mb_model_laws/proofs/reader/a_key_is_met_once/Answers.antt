use Rattle.mb_model_lemmas.proofs.ReaderLemmas as lemmas
use Rattle.mb_model_laws.proofs.reader.a_key_is_met_once.Goals as goal

pub returns : goal.returns
returns c = record {
  none = lemmas.no_lives_unmade;
  key = lemmas.first_sight;
  lives = lemmas.first_lives;
  alive = lemmas.first_alive;
}
