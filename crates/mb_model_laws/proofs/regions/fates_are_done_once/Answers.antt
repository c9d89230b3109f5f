use Rattle.mb_model_lemmas.proofs.FateLemmas as lemmas
use Rattle.mb_model_laws.proofs.regions.fates_are_done_once.Goals as goal

pub returns : goal.returns
returns c = record {
  twice = lemmas.fated_twice;
  kept = lemmas.kept_as_before;
  change = lemmas.change_is_fate;
  new_key = lemmas.new_key_is_fate;
}
