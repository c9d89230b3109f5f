use Rattle.std.proofs.Common.{ap, ◌∙◌}
use Rattle.std.proofs.Common.{◌++◌, ◌∷◌, []}
use Rattle.mb_image.proofs.Sectors.{two_spelled}
use Rattle.mb_image.proofs.segments.unsigned_in.Goals as goal

pub returns : goal.returns
returns c =
    two_spelled c.args.header.now.first c.args.header.now.second c.in-Some.text c.in-Some-second.text c.in-Some-entry_in.first c.in-Some-entry_in-2.second c.push-2.new.self c.in-Some.is c.in-Some-second.is c.in-Some-entry_in.ensures c.in-Some-entry_in-2.ensures
    (c.in_ok-push-2.ensures.ok ∙ ap (λ list. list ++ c.in-Some-entry_in-2.second ∷ []) (c.in_ok-push.ensures.ok ∙ ap (λ list. list ++ c.in-Some-entry_in.first ∷ []) c.new-entries.ensures))
