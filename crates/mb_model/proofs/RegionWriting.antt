-- What is written for a region stands for it, and fits an area.
use Rattle.std.proofs.Common.{◌≡◌, ℕ, ◌≤◌, inl, inr, List, [], ◌∷◌, length, refl, ap, ◌∙◌, arith, lit≤}
use Rattle.mb_model.specs.declared.region.Region.{Region}
use Rattle.mb_model.specs.declared.region.RegionKey.{RegionKey}
use Rattle.mb_model.specs.declared.region.Secret.{Secret}
use Rattle.mb_model.specs.owners.Regions.{empty_region}
use Rattle.mb_model.specs.records.RegionFormat.{secrets_format, region_by, region_format, SpellsRegion, CanBeWritten, written_with, written_region}
use Rattle.mb_model.proofs.FormatBounds.{region_short}
use Rattle.mb_model.proofs.RecordFormatLaws.{few_secrets}

abbrev region_with : List Secret → List RegionKey → Region
region_with secrets keys = record { secrets = secrets; keys = keys }

no_secret : {secret : Secret} {secrets : List Secret} {keys : List RegionKey} → region_with (secret ∷ secrets) keys ≡ empty_region → ⊥
no_secret e = omega (arith, ap (λ (region : Region). length region.secrets) e)

no_key : {secrets : List Secret} {key : RegionKey} {keys : List RegionKey} → region_with secrets (key ∷ keys) ≡ empty_region → ⊥
no_key e = omega (arith, ap (λ (region : Region). length region.keys) e)

spells_with : (secrets : List Secret) (keys : List RegionKey) → CanBeWritten (region_with secrets keys) → SpellsRegion (written_with secrets keys) (region_with secrets keys)
spells_with [] [] can = inl (refl, refl)
spells_with [] (key ∷ keys) (inl e) = absurd (no_key e)
spells_with [] (key ∷ keys) (inr allowed) = inr (record { version = 2; spelled = record { allowed = allowed; whole = refl } })
spells_with (secret ∷ secrets) keys (inl e) = absurd (no_secret e)
spells_with (secret ∷ secrets) keys (inr allowed) = inr (record { version = 2; spelled = record { allowed = allowed; whole = refl } })

pub written_spells : (region : Region) → CanBeWritten region → SpellsRegion (written_region region) region
written_spells region can = spells_with region.secrets region.keys can

-- the bytes that stand for a region are those of a record at most
pub spelled_short : (bytes : List ℕ) (region : Region) → SpellsRegion bytes region → length bytes ≤ 4087
spelled_short bytes region (inl none) = omega (arith, ap length none.0)
spelled_short bytes region (inr spelled) = omega (arith, ap length spelled.spelled.whole, region_short.short (spelled.version, region) spelled.spelled.allowed)

pub written_short : (region : Region) → CanBeWritten region → length (written_region region) ≤ 4087
written_short region can = spelled_short (written_region region) region (written_spells region can)

-- a region is empty, or what is written for it is its record
pub written_is_record : (region : Region) → (region ≡ empty_region → ⊥) → written_region region ≡ region_format.spelling (2, region)
written_is_record region some = by region.secrets region.keys refl refl
  where
    by : (secrets : List Secret) (keys : List RegionKey) → region.secrets ≡ secrets → region.keys ≡ keys → written_with secrets keys ≡ region_format.spelling (2, region_with secrets keys)
    by [] [] s k = absurd (some (ap (λ (secrets : List Secret). region_with secrets region.keys) s ∙ ap (region_with []) k))
    by [] (key ∷ keys) s k = refl
    by (secret ∷ secrets) keys s k = refl

-- what has a record of some version has one of version 2
pub later_version : (version : ℕ) (region : Region) → region_format.Allowed (version, region) → region_format.Allowed (2, region)
unfolding region_format region_by secrets_format
later_version version region h = ((lit≤ tt, lit≤ tt), (((omega arith, omega (arith, h.1.0.0.1, few_secrets version)), h.1.0.1), h.1.1))
