use Rattle.std.proofs.lemmas.Slice.Eq.{slice_eq-Decides}
use Rattle.mb_image.proofs.SameEntries.{signed_entries_decide}
use Rattle.mb_image.proofs.same.are_same_entries.Goals as goal

pub returns : goal.returns
returns c = slice_eq-Decides signed_entries_decide c.args.ones.now c.args.others.now c.eq.result c.eq.ensures
