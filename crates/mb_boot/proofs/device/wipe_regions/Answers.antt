use Rattle.std.proofs.Common.{◌∙◌}
use Rattle.mb_boot.proofs.Booted.{two_leaves_root, three_leaves_root}
use Rattle.mb_boot.proofs.device.wipe_regions.Goals as goal

pub returns-in_err-up-2-clause-root : goal.returns-in_err-up-2-clause-root
returns-in_err-up-2-clause-root g c =
    let first = (g.B.Board.seen c.args.b.now).memory in
    let now = (g.B.Board.seen c.wipe_region.new.b).memory in
    let last = (g.B.Board.seen c.wipe_region-2.new.b).memory in
    three_leaves_root now.bbram last.bbram c.wipe_region.ensures.ran.ran.sized.bbram c.wipe_region-2.ensures.ran.rest ∙ two_leaves_root first.bbram now.bbram c.requires.up.loaded.bbram c.wipe_region.ensures.ran.rest

pub returns-clause-root : goal.returns-clause-root
returns-clause-root g c =
    let first = (g.B.Board.seen c.args.b.now).memory in
    let now = (g.B.Board.seen c.wipe_region.new.b).memory in
    let last = (g.B.Board.seen c.wipe_region-2.new.b).memory in
    three_leaves_root now.bbram last.bbram c.wipe_region.ensures.ran.ran.sized.bbram c.wipe_region-2.ensures.ran.rest ∙ two_leaves_root first.bbram now.bbram c.requires.up.loaded.bbram c.wipe_region.ensures.ran.rest
