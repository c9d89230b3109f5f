use Rattle.std.proofs.Common.{refl, arith}
use Rattle.mb_library.specs.Chains.{listing_put, listing_without_room}
use Rattle.mb_library.proofs.Ends.{put_front}
use Rattle.mb_library.proofs.chains.put_listing.Goals as goal

pub returns-then-text-listing : goal.returns-then-text-listing
returns-then-text-listing c = listing_without_room refl c.of_listing.ensures c.if-text-listing.true refl

pub returns : goal.returns
returns c = listing_put refl c.of_listing.ensures (omega arith) (put_front _ _ _ _ (omega arith) c.put_at.ensures.written c.put_at.ensures.beyond)
