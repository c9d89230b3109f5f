use Rattle.mb_model_lemmas.proofs.ValidRegions as lemmas
use Rattle.mb_model_laws.proofs.regions.layers_keep_regions_valid.Goals as goal

pub returns : goal.returns
returns c = record {
  put = lemmas.valid_over_put;
  drop = lemmas.valid_over_drop;
  used = lemmas.valid_over_use;
}
