use Rattle.mb_top_laws.proofs.AppImageLemmas as lemmas
use Rattle.mb_top_laws.proofs.sight.app_tells_no_more_of_images.Goals as goal

pub returns : goal.returns
returns c = record {
  ends = lemmas.images_alike_have_equal_ends;
  lines = lemmas.images_alike_have_equal_lines;
  layers = lemmas.layers_are_seen;
  secrets = lemmas.secrets_are_seen;
}
