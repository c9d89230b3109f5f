-- The image of a new device is well formed.
use Rattle.std.proofs.Common.{◌≡◌, ℕ, List, [], ◌∷◌, ◌++◌, length, Some, refl, sym, ap, subst, arith, length-append}
use Rattle.std.proofs.lemmas.List.Elements.{All-nil}
use Rattle.mb_model.specs.declared.entry.SignedEntry.{SignedEntry}
use Rattle.mb_model.specs.declared.key.KeySeed.{KeySeed}
use Rattle.mb_model.specs.declared.key.PublicKey.{PublicKey}
use Rattle.mb_model.specs.declared.state.State.{State}
use Rattle.mb_model.specs.owners.Log.{figures_of, entries_of, last_of, layers_of, device_of, serial_of, uses_of_device_key, has_version_two}
use Rattle.mb_model.specs.owners.Lives.{splits, alive_keys}
use Rattle.mb_model.specs.owners.Regions.{empty_region}
use Rattle.mb_model.specs.machine.OrderEffects.{entry_signed_by}
use Rattle.mb_model.specs.memories.Valid.{Follows, EachFollows, IsValidRegion, IsValidState}
use Rattle.mb_model.specs.memories.Meaning.{IsWellFormed}
use Rattle.mb_model_lemmas.proofs.RuleLemmas.{version_two_may_follow}
use Rattle.mb_model.specs.memories.Factory.{layers_at_birth, birth_entry, state_at_birth, IsFactoryImage}
use Rattle.mb_model_lemmas.proofs.WrittenImages.{written_is_well_formed}

-- ---- the state

pub only_entry : (own signed : SignedEntry) (before rest : List SignedEntry) → own ∷ [] ≡ before ++ signed ∷ rest → Follows (figures_of []) own → Follows (figures_of (entries_of before)) signed
only_entry own signed [] rest split follows =
    let same : own ≡ signed = cc in
    subst (Follows (figures_of [])) same follows
only_entry own signed (first ∷ before) rest split follows = absurd (omega (arith, ap length split, length-append before (signed ∷ rest)))

module _ (maker : KeySeed) (index : ℕ) (owner : PublicKey) (code noise : List ℕ) where
  birth_follows : EachFollows (state_at_birth maker index owner code noise).log
  unfolding state_at_birth entry_signed_by
  birth_follows = λ before signed rest split.
      only_entry (entry_signed_by maker index (birth_entry owner code noise)) signed before rest split (record {
        ruled = (refl, record { owned = refl; reliable = refl; two = refl; three = refl }, version_two_may_follow (has_version_two []) (layers_at_birth owner code));
        in_order = λ some. absurd (some refl);
        verifies = λ some. absurd (some refl);
      })

  birth_region : (L : ℕ) → IsValidRegion (birth_entry owner code noise ∷ []) (layers_of (birth_entry owner code noise ∷ [])) L empty_region
  unfolding alive_keys splits
  birth_region L = record {
    empty = λ unreliable. refl;
    names = λ i j d less within. absurd (omega (arith, within));
    past = All-nil _;
    few = omega arith;
    keys = refl;
    kept = record { secrets = All-nil _; keys = All-nil _ };
  }

  pub birth_is_valid : IsValidState (state_at_birth maker index owner code noise)
  unfolding state_at_birth entry_signed_by layers_of last_of device_of serial_of uses_of_device_key
  birth_is_valid = record {
    log = birth_follows;
    layers = refl;
    codes = record { one = refl; two = tt; three = tt };
    serial = refl;
    device = refl;
    uses = refl;
    two = birth_region 2;
    three = birth_region 3;
  }

  -- ---- the image

  pub factory_is_well_formed : (image : List ℕ) → IsFactoryImage maker index owner code noise image → IsWellFormed image (Some (state_at_birth maker index owner code noise))
  factory_is_well_formed image made =
      let state : State = state_at_birth maker index owner code noise in
      subst (λ (bytes : List ℕ). IsWellFormed bytes (Some state)) (sym made.written) (written_is_well_formed (Some state) made.fits birth_is_valid)
