use Rattle.mb_model_histories.proofs.KeyFileLemmas as lemmas
use Rattle.mb_model_histories.proofs.keys.key_files_sign_once.Goals as goal

pub returns : goal.returns
returns c = record {
  sign = lemmas.signing_uses_up_its_index;
  countersign = lemmas.countersigning_uses_up_its_index;
  cosign = lemmas.cosigning_signs_the_draft;
  unused = lemmas.nothing_is_signed_without_an_index;
  turn = lemmas.indices_in_turn_differ;
  old = lemmas.old_keys_sign_again;
}
