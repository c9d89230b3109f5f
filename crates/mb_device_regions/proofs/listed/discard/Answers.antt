use Rattle.mb_device_regions.specs.Demands.{shown_secret}
use Rattle.mb_device_regions.proofs.Listing.{found_over, removed_there, removed_none}
use Rattle.mb_device_regions.proofs.listed.discard.Goals as goal

pub returns-in-Some : goal.returns-in-Some
returns-in-Some c =
    removed_there c.args.name.now c.args.listed.now.items c.remove.new.self.items c.in-Some.at (shown_secret c.remove.result) c.requires
    (found_over _ c.args.name.now c.as_slice.result.now c.args.listed.now.items c.as_slice.ensures.value c.in-Some.ensures) c.remove.ensures.items

pub returns-in_default : goal.returns-in_default
returns-in_default c =
    removed_none c.args.name.now c.args.listed.now.items (found_over _ c.args.name.now c.as_slice.result.now c.args.listed.now.items c.as_slice.ensures.value c.in_default.ensures)
