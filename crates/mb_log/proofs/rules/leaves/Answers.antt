use Rattle.std.proofs.Common.{rules}
use Rattle.mb_model_lemmas.proofs.SameLayers.{layers_decide}
use Rattle.mb_log.proofs.rules.leaves.Goals as goal

pub returns : goal.returns
returns c = let same = layers_decide c.args.new.now c.after.result in search (rules, same)
