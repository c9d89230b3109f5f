use Rattle.std.proofs.lemmas.Slice.Eq.{slice_eq-Decides}
use Rattle.mb_image.proofs.SameEntries.{region_keys_decide}
use Rattle.mb_image.proofs.same.are_same_keys.Goals as goal

pub returns : goal.returns
returns c = slice_eq-Decides region_keys_decide c.args.ones.now c.args.others.now c.eq.result c.eq.ensures
