use Rattle.mb_image.proofs.ValidParts.{and_with, kept_where}
use Rattle.mb_image.proofs.regions.are_kept.Goals as goal

pub returns-then-names_differ : goal.returns-then-names_differ
returns-then-names_differ c =
    and_with c.are_born_within.result (c.names_differ.ensures.0 c.if-names_differ.true)
    (kept_where c.args.log.now c.args.layer c.last_loss.result c.args.secrets.now c.requires.layer c.requires.ruled c.last_loss.ensures.upper c.last_loss.ensures.least)
    c.are_born_within.ensures
