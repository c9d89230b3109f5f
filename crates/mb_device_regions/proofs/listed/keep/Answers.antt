use Rattle.std.proofs.Common.{arith, refl}
use Rattle.mb_device_regions.proofs.Listing.{found_over, keeps_there, keeps_after, keeps_not}
use Rattle.mb_device_regions.proofs.listed.keep.Goals as goal

pub returns-in-Some : goal.returns-in-Some
returns-in-Some c =
    keeps_there c.args.secret c.args.listed.now.items _ c.in-Some.at c.requires (found_over _ c.args.secret.name.now c.as_slice.result.now c.args.listed.now.items c.as_slice.ensures.value c.in-Some.ensures)
    c.deref_mut.result.now _ refl c.deref_mut.ensures.value refl

pub returns-in-None : goal.returns-in-None
returns-in-None c =
    keeps_not c.args.secret c.args.listed.now.items c.args.listed.now.items (found_over _ c.args.secret.name.now c.as_slice.result.now c.args.listed.now.items c.as_slice.ensures.value c.in-None.ensures)
    (omega (arith, c.len-count.ensures.value))

pub returns-in-None-2 : goal.returns-in-None-2
returns-in-None-2 c =
    keeps_after c.args.secret c.args.listed.now.items c.push.new.self.items (found_over _ c.args.secret.name.now c.as_slice.result.now c.args.listed.now.items c.as_slice.ensures.value c.in-None-2.ensures)
    (omega (arith, c.len-count.ensures.value)) c.push.ensures.items
