use Rattle.mb_model_lemmas.proofs.ReaderLemmas as lemmas
use Rattle.mb_model_laws.proofs.reader.the_flag_is_life.Goals as goal

pub returns : goal.returns
returns c = record {
  stands = lemmas.made_stands;
  flagged = lemmas.flagged_lives;
  living = lemmas.living_is_flagged;
}
