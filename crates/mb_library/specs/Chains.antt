-- What is answered for a maker's key and a chain in bytes. Is the listing that of an accepted chain's report, and is a
-- refusal the one that the chain deserves?
use Rattle.std.specs.Prelude.{◌≡◌, ℕ, ◌<◌, ◌≤◌, List, ◌++◌, length, drop}
use Rattle.mb_model.specs.declared.limits.TheConstants.{FILE_LIMIT}
use Rattle.mb_model.specs.declared.key.PublicKey.{PublicKey}
use Rattle.mb_model.specs.declared.state.Report.{Report}
use Rattle.mb_model.specs.chains.Acceptance.{Accepts, IsRefused, ChainRefusal, refusal_code}
use Rattle.mb_model.specs.chains.Lines.{text_of}
use Rattle.mb_model.specs.chains.Listing.{listing}
use Rattle.mb_library.specs.declared.details.Details.{Details}
use Rattle.mb_library.specs.Details.{no_details, refusal_details}
use Rattle.mb_library.specs.Signatures.{SpellsKey, SpellsNoKey}

-- The end of putting a text where `old` stands: the text at its front and all else as before, if it has room, and
-- nothing otherwise. The length of the text is told.
pub data ListingEnd (text old new : List ℕ) (told : Details) (code : ℕ) : Type 0 where
  listing_put : code ≡ 0 → told ≡ record no_details { listing = length text } → length text ≤ length old
      → new ≡ text ++ drop (length text) old
      → ListingEnd text old new told code
  listing_without_room : code ≡ 5 → told ≡ record no_details { listing = length text } → length old < length text
      → new ≡ old
      → ListingEnd text old new told code

-- the end for a chain under a maker's key, asked for the key with this number; `old` and `new` stand where the listing
-- goes
pub data ChainEnd (maker : PublicKey) (chain : List ℕ) (key_number : ℕ) (old new : List ℕ) (told : Details) (code : ℕ)
    : Type 0 where
  chain_accepted : (report : Report) → Accepts maker chain key_number report
      → ListingEnd (text_of (listing key_number report)) old new told code
      → ChainEnd maker chain key_number old new told code
  chain_not_accepted : (refusal : ChainRefusal) → code ≡ refusal_code refusal → told ≡ refusal_details refusal
      → IsRefused maker chain key_number refusal → new ≡ old
      → ChainEnd maker chain key_number old new told code
  chain_without_memory : code ≡ 4 → told ≡ no_details → new ≡ old → ChainEnd maker chain key_number old new told code

-- the answer for the bytes of a maker's key and of a chain
pub data ChainAnswer (maker chain : List ℕ) (key_number : ℕ) (old new : List ℕ) (told : Details) (code : ℕ)
    : Type 0 where
  chain_read : (key : PublicKey) → SpellsKey maker key → length chain ≤ FILE_LIMIT
      → ChainEnd key chain key_number old new told code
      → ChainAnswer maker chain key_number old new told code
  chain_too_long : (key : PublicKey) → SpellsKey maker key → FILE_LIMIT < length chain → code ≡ 3
      → told ≡ no_details → new ≡ old
      → ChainAnswer maker chain key_number old new told code
  chain_under_no_key : SpellsNoKey maker → code ≡ 1 → told ≡ no_details → new ≡ old
      → ChainAnswer maker chain key_number old new told code
