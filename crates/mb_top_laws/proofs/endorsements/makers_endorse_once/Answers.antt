use Rattle.mb_top_laws.proofs.EndorsementLemmas as lemmas
use Rattle.mb_top_laws.proofs.endorsements.makers_endorse_once.Goals as goal

pub returns : goal.returns
returns c = record {
  number = lemmas.endorsing_uses_up_its_number;
  done = lemmas.done_calls_use_numbers;
  turn = lemmas.numbers_in_turn_differ;
  old = lemmas.old_makers_endorse_again;
}
