-- An image that stands for a state gives the calls what they require.
use Rattle.std.proofs.Common.{◌≡◌, ℕ, Bool, true, false, List, [], length, Option, Some, None, Result, Ok, Err, refl, sym, ap, subst, arith, length-append}
use Rattle.std.specs.Prelude.{nat_le, find, if◌then◌else◌}
use Rattle.std.proofs.lemmas.Bool.{leb-false}
use Rattle.mb_model.specs.declared.region.Region.{Region}
use Rattle.mb_model.specs.declared.region.RegionKey.{RegionKey}
use Rattle.mb_model.specs.declared.reply.Refusal.{Refusal}
use Rattle.mb_model.specs.machine.LayerEvents.{has_number}
use Rattle.mb_model.specs.declared.reply.Refusal.TheVariants.{KeySpent}
use Rattle.mb_model.specs.machine.Calls.{usable_key, key_for}
use Rattle.mb_model.specs.declared.state.State.{State}
use Rattle.mb_model.specs.outside.Board.{Memory, IsLoaded, image_of}
use Rattle.mb_model.specs.memories.Meaning.{StandsFor, IsWellFormed}
use Rattle.mb_model_lemmas.proofs.FaultLemmas.{image_parts}
use Rattle.mb_model_memory.proofs.CommitLemmas.{live_contents}
use Rattle.mb_outbound.specs.Binding.{HasUnspentKey}
use Rattle.mb_boot.specs.Booting.{StandsForValid, KeepsState}
use Rattle.mb_test_cuts.specs.Staged.{IsLiveImage, HoldsImage, IsReadyForCalls}

pub live_length : (image : List ℕ) → IsLiveImage image → length image ≡ 1077248
live_length image live =
    let formed : IsWellFormed image (Some live.state) = live.well_formed in
    omega (arith, ap length formed.image_is.0, length-append formed.flash formed.bbram, formed.image_is.1.flash, formed.image_is.1.bbram)

stands_here : (image : List ℕ) (memory : Memory) (live : IsLiveImage image) → IsLoaded memory → image_of memory ≡ image
    → StandsFor memory.flash memory.bbram (Some live.state)
stands_here image memory live loaded same =
    let formed : IsWellFormed image (Some live.state) = live.well_formed in
    let parts = image_parts image formed.flash formed.bbram memory.flash memory.bbram formed.image_is (sym same, loaded) in
    subst (λ (bbram : List ℕ). StandsFor memory.flash bbram (Some live.state)) parts.1
    (subst (λ (flash : List ℕ). StandsFor flash formed.bbram (Some live.state)) parts.0 formed.stands)

pub ready : (image : List ℕ) (power : Bool) (memory : Memory) → IsLiveImage image → HoldsImage image power memory → IsReadyForCalls memory
ready image power memory live holds =
    let stands = stands_here image memory live holds.loaded holds.same in
    let contents = live_contents memory.flash memory.bbram live.state stands in
    record {
      loaded = holds.loaded;
      stands = record { state = Some live.state; stands = stands; valid = live.well_formed.valid };
      two = record { region = contents.contents.two; holds = contents.holds.two };
      three = record { region = contents.contents.three; holds = contents.holds.three };
    }

-- the memory still has its length after a boot
pub still_loaded : (before after : Memory) → StandsForValid before → KeepsState before after → IsLoaded after
still_loaded before after stands keeps = (keeps.kept stands.state stands.stands).sized

pub is_live : (image : List ℕ) (state : State) → IsWellFormed image (Some state) → IsLiveImage image
is_live image state formed = record { state = state; well_formed = formed }

-- a key that is found with an index left can sign
pub can_sign : (number : ℕ) (region : Region) (key : RegionKey) → Ok (Some key) ≡ key_for (Some number) region → HasUnspentKey region number
can_sign number region key is = among (find (has_number number) region.keys) refl is
  where
    has_left : (one : RegionKey) (spent : Bool) → find (has_number number) region.keys ≡ Some one → nat_le 32 one.uses ≡ spent
        → Ok (Some key) ≡ (if spent then Err KeySpent else Ok (Some one)) → HasUnspentKey region number
    has_left one true found most same = absurd (cc same)
    has_left one false found most same = (one, record { found = found; left = leb-false 32 one.uses most })

    among : (one : Option RegionKey) → find (has_number number) region.keys ≡ one → Ok (Some key) ≡ usable_key one → HasUnspentKey region number
    among None found same = absurd (cc same)
    among (Some one) found same = has_left one (nat_le 32 one.uses) found refl same
