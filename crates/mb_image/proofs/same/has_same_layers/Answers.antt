use Rattle.std.proofs.Common.{rules}
use Rattle.mb_model_lemmas.proofs.SameLayers.{layers_decide}
use Rattle.mb_image.proofs.same.has_same_layers.Goals as goal

pub returns : goal.returns
returns c = let same = layers_decide c.args.one.now c.args.other.now in search (rules, same)
