use Rattle.mb_device_regions.proofs.Listing.{fits_each}
use Rattle.mb_device_regions.proofs.reserve.Spare.fill.Goals as goal

pub fill-requires : goal.fill-requires
fill-requires c = fits_each c.args.listed.now.items c.as_slice-shown-items.result.now c.loop-shown.shown-index _ c.requires c.as_slice-shown-items.ensures.value c.loop-shown-test.true
