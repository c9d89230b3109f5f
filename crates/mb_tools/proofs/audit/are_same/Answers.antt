use Rattle.std.proofs.lemmas.Slice.Eq.{slice_eq-Decides}
use Rattle.mb_model_lemmas.proofs.SameLayers.{configurations_decide}
use Rattle.mb_tools.proofs.audit.are_same.Goals as goal

pub returns : goal.returns
returns c = slice_eq-Decides configurations_decide c.args.first.now c.args.second.now c.eq.result c.eq.ensures
