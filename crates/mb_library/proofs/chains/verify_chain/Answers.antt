use Rattle.std.proofs.Common.{ℕ, List, subst, ◌∙◌}
use Rattle.mb_library.specs.Chains.{ListingEnd, chain_accepted}
use Rattle.mb_library.proofs.Ends.{chain_ends}
use Rattle.mb_library.proofs.chains.verify_chain.Goals as goal

pub returns-in-Ok-write_listing : goal.returns-in-Ok-write_listing
returns-in-Ok-write_listing c =
    let listed = subst (λ (text : List ℕ). ListingEnd text c.args.listing.now c.put_listing.new.listing c.put_listing.new.details c.put_listing.result)
    (c.as_slice.ensures.value ∙ c.in-Ok-write_listing.ensures) c.put_listing.ensures in
    chain_accepted c.in-Ok.report c.in-Ok.ensures.accepted listed

pub returns : goal.returns
returns c = rw (c.code_of.ensures, c.of_end.ensures) (chain_ends _ _ _ _ c.in-Err.why c.in-Err.ensures.refused)
