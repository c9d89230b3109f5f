use Rattle.mb_model_histories.proofs.SignedTextLemmas as lemmas
use Rattle.mb_model_histories.proofs.texts.signed_texts_are_apart.Goals as goal

pub returns : goal.returns
returns c = record {
  apart = lemmas.texts_are_apart;
  begin = lemmas.texts_begin;
  keys = lemmas.keys_are_no_texts;
  sized = lemmas.serials_have_to_be_sized;
  hashed = lemmas.hashes_have_to_be_sized;
  range = lemmas.numbers_have_to_be_in_range;
}
