-- The records of a device's memory are read exactly.
use Rattle.std.proofs.Common.{◌≡◌, ℕ, ◌<◌, ◌≤◌, ◌==◌, Bool, true, false, if◌then◌else◌, Some, refl, arith, rules, lit<, lit≤}
use Rattle.std.specs.Int.{w8}
use Rattle.mb_format.specs.Reading.{IsExact}
use Rattle.mb_format.proofs.Rules.{exactly}
use Rattle.mb_format.proofs.Fields.{IsTable, wide8, between_exact, nothing_exact}
use Rattle.mb_format.proofs.Compositions.{both_exact, as_record_exact, counted_exact}
use Rattle.mb_model.specs.declared.region.RegionKey.{RegionKey}
use Rattle.mb_model.specs.declared.stored.Fate.{Fate}
use Rattle.mb_model.specs.declared.stored.Fate.TheVariants.{AddKey}
use Rattle.mb_model.specs.records.RootFormat.{region_key_format, outgoing_format, FateTag, keep_tag, empty_tag, drop_tag, add_tag, fate_byte, fate_rows, fate_tag, key_added_by, fate_by, fate_format, pending_format, root_format}
use Rattle.mb_model.specs.records.RegionFormat.{secret_format, most_secrets, secrets_format, least_keys, keys_format, region_by, region_format}
use Rattle.mb_model.specs.memories.PublicRecord.{code_format, codes_format, public_entry_format, public_format}
use Rattle.mb_model.proofs.KeyFormatLaws.{key_seed_exact}
use Rattle.mb_model.proofs.EntryFormatLaws.{key_kind_exact, entry_exact}

-- ---- the root

pub region_key_exact : IsExact region_key_format
unfolding region_key_format
region_key_exact = search (exactly, key_kind_exact, key_seed_exact) depth 20

pub outgoing_exact : IsExact outgoing_format
unfolding outgoing_format
outgoing_exact = search (exactly, key_seed_exact) depth 20

pub fate_table : IsTable w8 fate_rows fate_byte
fate_table = record { rows_are = search rules; back = elim [ keep_tag ↦ refl | empty_tag ↦ refl | drop_tag ↦ refl | add_tag ↦ refl ] }

added_only : (fate : Fate) (key : RegionKey) → key_added_by fate ≡ Some key → AddKey key ≡ fate
added_only fate key e = grind arith

pub fate_by-exact : (tag : FateTag) → IsExact (fate_by tag)
fate_by-exact keep_tag = nothing_exact
fate_by-exact empty_tag = nothing_exact
fate_by-exact drop_tag = nothing_exact
fate_by-exact add_tag = search (exactly, region_key_exact, added_only) depth 20

pub fate_keyed : (tag : FateTag) (fate : Fate) → (fate_by tag).Allowed fate → fate_tag fate ≡ tag
fate_keyed keep_tag fate h = rw h refl
fate_keyed empty_tag fate h = rw h refl
fate_keyed drop_tag fate h = rw h refl
fate_keyed add_tag fate h = grind arith

pub fate_exact : IsExact fate_format
unfolding fate_format
fate_exact = search (exactly, fate_table, fate_by-exact, fate_keyed) depth 20

pub pending_exact : IsExact pending_format
unfolding pending_format
pending_exact = search (exactly, outgoing_exact, fate_exact) depth 20

pub root_exact : IsExact root_format
unfolding root_format
root_exact = search (exactly, key_seed_exact, pending_exact) depth 20

-- ---- regions

pub secret_exact : IsExact secret_format
unfolding secret_format
secret_exact = search exactly depth 20

pub secrets_exact : (most : ℕ) → most < 256 → IsExact (secrets_format most)
unfolding secrets_format
secrets_exact most small = counted_exact (between_exact wide8 small) secret_exact

pub keys_exact : (least : ℕ) → IsExact (keys_format least)
unfolding keys_format
keys_exact least = search (exactly, region_key_exact) depth 20

pub few_secrets : (version : ℕ) → most_secrets version ≤ 22
few_secrets version = by (version == 1)
  where
    by : (first : Bool) → (if first then 16 else 22) ≤ 22
    by true = lit≤ tt
    by false = lit≤ tt

region_by-exact : (version : ℕ) → IsExact (region_by version)
unfolding region_by
region_by-exact version =
    let few = few_secrets version in
    as_record_exact _ _ (both_exact (secrets_exact (most_secrets version) (omega (arith, few))) (λ secrets h. keys_exact (least_keys secrets))) (λ p h. refl) (λ region. refl)

pub region_exact : IsExact region_format
unfolding region_format
region_exact = both_exact (between_exact wide8 (lit< tt)) (λ version h. region_by-exact version)

-- ---- the public record

pub code_format_exact : IsExact code_format
unfolding code_format
code_format_exact = search exactly depth 20

pub codes_exact : IsExact codes_format
unfolding codes_format
codes_exact = search (exactly, code_format_exact) depth 20

pub public_entry_exact : IsExact public_entry_format
unfolding public_entry_format
public_entry_exact = search (exactly, entry_exact) depth 20

pub public_exact : IsExact public_format
unfolding public_format
public_exact = search (exactly, codes_exact, public_entry_exact) depth 20
