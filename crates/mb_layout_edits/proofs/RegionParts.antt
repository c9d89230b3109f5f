-- The record of a region, read in its parts.
use Rattle.std.proofs.Common.{◌≡◌, ℕ, true, ◌-◌, ◌<◌, ◌≤◌, ◌==◌, inl, inr, List, [], ◌∷◌, ◌++◌, length, take, drop, Ok, Err, refl, sym, ap, ◌∙◌, arith}
use Rattle.std.proofs.lemmas.Bool.{eqb-true}
use Rattle.std.specs.List.{All}
use Rattle.std.specs.Int.{w8}
use Rattle.mb_format.specs.Combinators.{between, number_bytes}
use Rattle.mb_format.specs.Format.{IsBytes}
use Rattle.mb_bytes.specs.declared.cursor.Cursor.{Cursor}
use Rattle.mb_bytes.specs.Reads.{ReadsOk, ReadsErr}
use Rattle.mb_model.specs.declared.region.Region.{Region}
use Rattle.mb_model.specs.declared.region.RegionKey.{RegionKey}
use Rattle.mb_model.specs.declared.region.Secret.{Secret}
use Rattle.mb_model.specs.records.RegionFormat.{most_secrets, least_keys, secrets_format, keys_format, region_by, region_format, SpellsRegion, CanBeWritten, written_with, written_region}
use Rattle.mb_model.proofs.RecordFormatLaws.{secrets_exact, region_exact}
use Rattle.mb_layout_edits.specs.declared.stored.StoredRegion.{StoredRegion}
use Rattle.mb_layout_edits.specs.StoredRegion.{IsStoredAs, IsWalked}
use Rattle.mb_layout_edits.proofs.Walking.{between_offsets, read_once, never_read}
use Rattle.mb_model.specs.owners.Regions.{empty_region}
use Rattle.mb_model.proofs.FormatBounds.{region_short}
use Rattle.mb_model.proofs.RegionWriting.{written_is_record}
use Rattle.std.specs.Global.{Vec}
use Rattle.std.specs.Vec.{vec_len, vec_capacity}
use Rattle.std.specs.Prelude.{Result}
use Rattle.mb_bytes.specs.Puts.{Puts}
use Rattle.mb_layout.specs.Bounds.{HasByteUses}
use Rattle.mb_layout.proofs.Sizes.{region_fits}

pub region_ok : {old one two new : Cursor} {version : ℕ} {secrets : List Secret} {keys : List RegionKey} → ReadsOk (between w8 1 2) old version one → ReadsOk (secrets_format (most_secrets version)) one secrets two
    → ReadsOk (keys_format (least_keys secrets)) two keys new → ReadsOk region_format old (version, record { secrets = secrets; keys = keys }) new
unfolding region_format region_by
region_ok p q r = record { bytes = r.bytes ∙ q.bytes ∙ p.bytes; reads = rw (p.reads, ← p.bytes, q.reads, ← q.bytes, r.reads) refl }

pub version_fails : {old new : Cursor} {at : ℕ} → ReadsErr (between w8 1 2) old at new → ReadsErr region_format old at new
unfolding region_format
version_fails p = record { bytes = p.bytes; reads = rw p.reads refl }

pub secrets_fail : {old one new : Cursor} {version at : ℕ} → ReadsOk (between w8 1 2) old version one → ReadsErr (secrets_format (most_secrets version)) one at new → ReadsErr region_format old at new
unfolding region_format region_by
secrets_fail p q = record { bytes = q.bytes ∙ p.bytes; reads = rw (p.reads, ← p.bytes, q.reads) refl }

pub keys_fail : {old one two new : Cursor} {version : ℕ} {secrets : List Secret} {at : ℕ} → ReadsOk (between w8 1 2) old version one → ReadsOk (secrets_format (most_secrets version)) one secrets two
    → ReadsErr (keys_format (least_keys secrets)) two at new → ReadsErr region_format old at new
unfolding region_format region_by
keys_fail p q r = record { bytes = r.bytes ∙ q.bytes ∙ p.bytes; reads = rw (p.reads, ← p.bytes, q.reads, ← q.bytes, r.reads) refl }

pub from_start : {old new : Cursor} {at : ℕ} (bytes : List ℕ) → old.bytes.now ≡ bytes → old.offset ≡ 0 → ReadsErr region_format old at new → region_format.reads bytes 0 ≡ Err at
from_start bytes same first r = rw (same, first) at r.reads

pub ok_from_start : {old new : Cursor} {versioned : ℕ × Region} (bytes : List ℕ) → old.bytes.now ≡ bytes → old.offset ≡ 0 → ReadsOk region_format old versioned new → region_format.reads bytes 0 ≡ Ok (versioned, new.offset)
ok_from_start bytes same first r = rw (same, first) at r.reads

-- the bytes between the two offsets spell the secrets
pub secrets_between : {one two : Cursor} {secrets : List Secret} {bytes behind part : List ℕ} {most start end : ℕ} → most ≤ 22 → ReadsOk (secrets_format most) one secrets two → one.bytes.now ≡ bytes → start ≡ one.offset → end ≡ two.offset
    → behind ≡ drop start bytes → part ≡ take (end - start) behind → part ≡ (secrets_format 22).spelling secrets
unfolding secrets_format
secrets_between {one} {two} {secrets} {bytes} {behind} {part} {most} {start} {end} few r same s e b t =
    t ∙ ap (take (end - start)) b ∙ (rw (s, e, ← same) (between_offsets (secrets_exact most (omega (arith, few))) r))

-- ---- the region for which bytes stand

pub empty_stands : {bytes : List ℕ} → length bytes ≡ 0 → (region : Region) → SpellsRegion bytes region → region ≡ empty_region
unfolding region_format number_bytes
empty_stands z region (inl none) = none.1
empty_stands z region (inr spelled) = absurd (omega (arith, z, ap length spelled.spelled.whole))

pub stands_for : {bytes : List ℕ} {stored : StoredRegion} → IsBytes bytes → 0 < length bytes → IsWalked bytes stored → (region : Region) → SpellsRegion bytes region → IsStoredAs stored region
stands_for {bytes} {stored} are some walked region (inl none) = absurd (omega (arith, some, ap length none.0))
stands_for {bytes} {stored} are some walked region (inr spelled) =
    let same : region ≡ walked.region = ap (λ (versioned : ℕ × Region). versioned.1) (read_once region_exact are walked.reads spelled.spelled) in
    rw same walked.stands

pub stands_for_none : {bytes : List ℕ} {at : ℕ} → IsBytes bytes → 0 < length bytes → region_format.reads bytes 0 ≡ Err at → (region : Region) → SpellsRegion bytes region → ⊥
stands_for_none are some fails region (inl none) = omega (arith, some, ap length none.0)
stands_for_none are some fails region (inr spelled) = never_read region_exact are fails spelled.spelled

pub none_left : (n : ℕ) → true ≡ (n == 0) → n ≡ 0
none_left n e = eqb-true n 0 (sym e)

-- ---- the record of a region

pub empty_is_few : {region : Region} {least n : ℕ} → region ≡ empty_region → least ≡ least_keys region.secrets → n ≡ length region.keys → n < least
empty_is_few {region} {least} {n} e l k =
    let one : least ≡ 1 = l ∙ ap (λ (r : Region). least_keys r.secrets) e in
    let none : n ≡ 0 = k ∙ ap (λ (r : Region). length r.keys) e in
    omega arith

-- nothing is written for a region without secrets and keys
pub nothing_written : (region : Region) {least n : ℕ} → least ≡ least_keys region.secrets → n ≡ length region.keys → n < least → [] ≡ written_region region
nothing_written region {least} {n} l k few = by region.secrets region.keys l k
  where
    by : (secrets : List Secret) (keys : List RegionKey) → least ≡ least_keys secrets → n ≡ length keys → [] ≡ written_with secrets keys
    by [] [] l k = refl
    by [] (key ∷ keys) l k = absurd (omega (arith, l, k, few))
    by (secret ∷ secrets) keys l k = absurd (omega (arith, l, few))

-- what was put is the record, where there was room for the longest
pub put_whole : {E : Type 0} {secrets : List ℕ} {keys : List RegionKey} (region : Region) (old new : Vec ℕ) (result : Result (Unit {0}) E) → Puts ((2 ∷ []) ++ (secrets ++ (keys_format 0).spelling keys)) old result new
    → old.items ≡ [] → vec_len old ≡ 0 → 4087 ≤ vec_capacity old → secrets ≡ (secrets_format 22).spelling region.secrets → keys ≡ region.keys → region_format.Allowed (2, region) → new.items ≡ region_format.spelling (2, region)
unfolding region_format region_by secrets_format keys_format number_bytes
put_whole {E} {secrets} {keys} region old new (Ok u) p none len room s k allowed =
    p.items ∙ ap (λ (x : List ℕ). x ++ ((2 ∷ []) ++ (secrets ++ (keys_format 0).spelling keys))) none ∙ (rw (s, k) refl)
put_whole {E} {secrets} {keys} region old new (Err e) p none len room s k allowed =
    let same : (2 ∷ []) ++ (secrets ++ (keys_format 0).spelling keys) ≡ region_format.spelling (2, region) = rw (s, k) refl in
    absurd (omega (arith, p.no_room, len, room, ap length same, region_short.short (2, region) allowed))

-- and the buffer has no less room afterwards
pub put_roomy : {E : Type 0} {secrets : List ℕ} {keys : List RegionKey} (region : Region) (old new : Vec ℕ) (result : Result (Unit {0}) E) → Puts ((2 ∷ []) ++ (secrets ++ (keys_format 0).spelling keys)) old result new
    → vec_len old ≡ 0 → 4087 ≤ vec_capacity old → secrets ≡ (secrets_format 22).spelling region.secrets → keys ≡ region.keys → region_format.Allowed (2, region) → vec_capacity old ≤ vec_capacity new
unfolding region_format region_by secrets_format keys_format number_bytes
put_roomy {E} {secrets} {keys} region old new (Ok u) p len room s k allowed = p.capacity
put_roomy {E} {secrets} {keys} region old new (Err e) p len room s k allowed =
    let same : (2 ∷ []) ++ (secrets ++ (keys_format 0).spelling keys) ≡ region_format.spelling (2, region) = rw (s, k) refl in
    absurd (omega (arith, p.no_room, len, room, ap length same, region_short.short (2, region) allowed))

-- the uses of the keys of a region that bytes spell fit into a byte
pub uses_fit : {bytes : List ℕ} (region : Region) → SpellsRegion bytes region → All HasByteUses region.keys
uses_fit region (inl none) = λ k d lt. absurd (omega (arith, lt, ap (λ (r : Region). length r.keys) none.1))
uses_fit region (inr spelled) = (region_fits spelled.version region spelled.spelled.allowed).each_key

-- the keys of a region that can be written are eight at most
pub few_keys : (region : Region) → CanBeWritten region → length region.keys ≤ 8
few_keys region (inl e) = omega (arith, ap (λ (r : Region). length r.keys) e)
few_keys region (inr allowed) = (region_fits 2 region allowed).keys

pub stored_after : {region : Region} {bytes : List ℕ} → CanBeWritten region → (region ≡ empty_region → ⊥) → (region_format.Allowed (2, region) → bytes ≡ region_format.spelling (2, region)) → bytes ≡ written_region region
stored_after (inl e) not_empty spells = absurd (not_empty e)
stored_after {region} (inr allowed) not_empty spells = spells allowed ∙ sym (written_is_record region not_empty)

-- what is stored of a region that is not empty is a record
pub record_after : {region : Region} {m n : ℕ} → CanBeWritten region → (region ≡ empty_region → ⊥) → (region_format.Allowed (2, region) → m ≤ n) → m ≤ n
record_after (inl e) not_empty fits = absurd (not_empty e)
record_after (inr allowed) not_empty fits = fits allowed
