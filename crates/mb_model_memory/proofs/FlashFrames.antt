-- What may be written to a flash in segments while codes and entries stay, whole or torn.
use Rattle.std.proofs.Common.{◌≡◌, ◌≢◌, ℕ, zero, suc, ◌+◌, ◌*◌, ◌-◌, ◌<◌, ◌≤◌, ◌⊎◌, inl, inr, Bool, true, false, List, ◌∷◌, length, get_or, take, drop, Option, None, Some, refl, sym, ap, subst, ◌∙◌, arith, length-append}
use Rattle.std.specs.Prelude.{◌==◌, if◌then◌else◌}
use Rattle.std.proofs.lemmas.List.{ext_get_or, get_or-take, get_or-drop}
use Rattle.std.proofs.lemmas.Bool.{cases_order}
use Rattle.mb_model.specs.declared.entry.Entry.{Entry}
use Rattle.mb_model.specs.declared.entry.SignedEntry.{SignedEntry}
use Rattle.mb_model.specs.declared.state.Codes.{Codes}
use Rattle.mb_model.specs.declared.stored.Root.{Root}
use Rattle.mb_model.specs.declared.stored.Slot.{Slot}
use Rattle.mb_model.specs.declared.stored.Header.{Header}
use Rattle.mb_model.specs.records.HeaderFormat.{header_format}
use Rattle.mb_model.specs.outside.Pieces.{part}
use Rattle.mb_model.specs.memories.Sectors.{header_sector, code_sector, log_sector, BeginsAs}
use Rattle.mb_model.specs.memories.Flash.{sector, code_slot, HoldsHeader, HoldsCode, HoldsEntry, HoldsLog, HoldsPublic}
use Rattle.mb_model.proofs.Places.{length-part}
use Rattle.mb_model_lemmas.specs.SegmentLaws.{IsSmallHeader}
use Rattle.mb_model_lemmas.proofs.HeldSegments.{small_held}
use Rattle.mb_model.specs.memories.Spared.{IsUnused}
use Rattle.mb_model_memory.specs.FlashInForce.{slot_in, AgreeForArea, DiffersOnlyIn}
use Rattle.mb_model_memory.specs.FlashLaws.{AgreeingFlashesHoldTheSame, AgreementKeepsTheLog, FlashesAgreeWithThemselves, AgreementGoesOn, AgreementGoesBack, UncountedSectorsAreFree, OtherHeadersAreFree, UnnamedSlotsAreFree}

-- ---- parts apart from what was written

-- a part whose every byte is the same is the same
pub part_same : (from n : ℕ) (before after : List ℕ) → length after ≡ length before → from + n ≤ length before
    → ((offset : ℕ) → from ≤ offset → offset < from + n → get_or after offset 0 ≡ get_or before offset 0) → part from n after ≡ part from n before
part_same from n before after sized within same =
    let count : length (part from n after) ≡ n = length-part from n after (omega arith) in
    ext_get_or 0 (part from n after) (part from n before) (count ∙ sym (length-part from n before within))
    (λ i less.
    let short : i < n = omega arith in
    get_or-take n (drop from after) i 0 short ∙ get_or-drop from after i 0
    ∙ same (from + i) (omega arith) (omega arith)
    ∙ sym (get_or-drop from before i 0) ∙ sym (get_or-take n (drop from before) i 0 short))

apart_same : (from size n count : ℕ) (before after : List ℕ) → DiffersOnlyIn n count before after → from + size ≤ length before → (from + size ≤ 4096 * n) ⊎ (4096 * n + 4096 * count ≤ from) → part from size after ≡ part from size before
apart_same from size n count before after same within (inl below) = part_same from size before after same.sized within (λ offset least most. same.bytes offset (inl (omega arith)))
apart_same from size n count before after same within (inr above) = part_same from size before after same.sized within (λ offset least most. same.bytes offset (inr (omega arith)))

pub sector_apart : (m n count : ℕ) (before after : List ℕ) → m < 256 → (m < n) ⊎ (n + count ≤ m) → length before ≡ 1048576
    → DiffersOnlyIn n count before after → sector after m ≡ sector before m
unfolding sector
sector_apart m n count before after within (inl less) sized same = apart_same (4096 * m) 4096 n count before after same (omega arith) (inl (omega arith))
sector_apart m n count before after within (inr more) sized same = apart_same (4096 * m) 4096 n count before after same (omega arith) (inr (omega arith))

above_codes : (n : ℕ) → IsUnused n → 50 ≤ n
above_codes n (inl low) = low.0
above_codes n (inr high) = omega (arith, high.0)

below_end : (n : ℕ) → IsUnused n → n < 256
below_end n (inl low) = omega (arith, low.1)
below_end n (inr high) = high.1

-- a sector that holds nothing stays
unused_apart : (m n count : ℕ) (before after : List ℕ) → IsUnused m → (m < n) ⊎ (n + count ≤ m) → length before ≡ 1048576
    → DiffersOnlyIn n count before after → sector after m ≡ sector before m
unused_apart m n count before after is apart sized same = sector_apart m n count before after (below_end m is) apart sized same

pub slot_apart : (layer slot n count : ℕ) (before after : List ℕ) → layer ≤ 3 → slot ≤ 2 → (n + count ≤ code_sector layer slot) ⊎ (code_sector layer slot + 8 ≤ n) → length before ≡ 1048576
    → DiffersOnlyIn n count before after → code_slot after layer slot ≡ code_slot before layer slot
unfolding code_slot
slot_apart layer slot n count before after layers slots (inl less) sized same =
    apart_same (4096 * code_sector layer slot) 32768 n count before after same (omega arith) (inr (omega arith))
slot_apart layer slot n count before after layers slots (inr more) sized same =
    apart_same (4096 * code_sector layer slot) 32768 n count before after same (omega arith) (inl (omega arith))

-- two slots are one, or apart
slots_apart : (layer slot other free : ℕ) → 1 ≤ layer → 1 ≤ slot → slot ≤ 2 → 1 ≤ other → 1 ≤ free → free ≤ 2 → ((layer ≡ other) → slot ≡ free → ⊥)
    → (code_sector other free + 8 ≤ code_sector layer slot) ⊎ (code_sector layer slot + 8 ≤ code_sector other free)
slots_apart layer slot other free la sl sm ol fl fm apart = by_order (cases_order (2 * layer + slot) (2 * other + free))
  where
    by_order : (2 * layer + slot ≡ 2 * other + free) ⊎ ((2 * layer + slot < 2 * other + free) ⊎ (2 * other + free < 2 * layer + slot))
        → (code_sector other free + 8 ≤ code_sector layer slot) ⊎ (code_sector layer slot + 8 ≤ code_sector other free)
    by_order (inl same) = absurd (apart (omega (arith, same)) (omega (arith, same)))
    by_order (inr (inl less)) = inr (omega (arith, less))
    by_order (inr (inr more)) = inl (omega (arith, more))

-- ---- slots by their layer

slot_by : (b c : Bool) (header : Header) → IsSmallHeader header → (if b then header.one else if c then header.two else header.three).which ≤ 2
slot_by true c header is = is.one
slot_by false true header is = is.two
slot_by false false header is = is.three

pub slot_small : (header : Header) (layer : ℕ) → IsSmallHeader header → (slot_in header layer).which ≤ 2
slot_small header layer is = slot_by (layer == 1) (layer == 2) header is

positive : (n : ℕ) → n ≢ 0 → 1 ≤ n
positive n some = omega (arith, some)

-- ---- codes and entries stay where the bytes that count do

pub code_stays : (flash other : List ℕ) (layer : ℕ) (slot : Slot) (code : Option (List ℕ)) → (slot.which ≢ 0 → code_slot other layer slot.which ≡ code_slot flash layer slot.which)
    → HoldsCode flash layer slot code → HoldsCode other layer slot code
code_stays flash other layer slot None same holds = holds
code_stays flash other layer slot (Some code) same holds = (holds.0, holds.1 ∙ ap (take slot.length) (sym (same holds.0)))

pub log_stays : (flash other : List ℕ) (log : List SignedEntry) → ((position : ℕ) → position < length log → sector other (log_sector position) ≡ sector flash (log_sector position))
    → HoldsLog flash log → HoldsLog other log
log_stays flash other log same holds = record {
  each = λ before signed rest split.
      subst (λ (bytes : List ℕ). HoldsEntry bytes signed) (sym (same (length before) (omega (arith, ap length split, length-append before (signed ∷ rest))))) (holds.each before signed rest split);
}

pub segments_stay : AgreeingFlashesHoldTheSame
segments_stay flash other root codes signed unsigned agree holds =
    let slots = (agree.slots holds.header holds.begins).slots in
    record {
      header = holds.header;
      begins = subst (λ (bytes : List ℕ). BeginsAs header_format bytes holds.header) (sym agree.header) holds.begins;
      one = code_stays flash other 1 holds.header.one codes.one (slots 1 (omega arith) (omega arith)) holds.one;
      two = code_stays flash other 2 holds.header.two codes.two (slots 2 (omega arith) (omega arith)) holds.two;
      three = code_stays flash other 3 holds.header.three codes.three (slots 3 (omega arith) (omega arith)) holds.three;
      count = holds.count;
      log = log_stays flash other signed (λ position less. agree.log holds.header holds.begins position (omega (arith, less, holds.count))) holds.log;
      unsigned_are = holds.unsigned_are;
      counted = holds.counted;
    }

-- its header is the one it was
pub stays_header : (flash other : List ℕ) (root : Root) (codes : Codes) (signed : List SignedEntry) (unsigned : List Entry) (agree : AgreeForArea flash other root.area)
    (holds : HoldsPublic flash root codes signed unsigned) → (segments_stay flash other root codes signed unsigned agree holds).header ≡ holds.header
unfolding segments_stay
stays_header flash other root codes signed unsigned agree holds = refl

pub signed_log_stays : AgreementKeepsTheLog
signed_log_stays before after agree = record { kept = λ root header has holds position less. (agree root has).log header holds position less }

-- ---- what may be written

-- a sector of the log that no header counts
pub torn_log : UncountedSectorsAreFree
torn_log before after area position low few free sized same = record {
  header = sector_apart (header_sector area) (log_sector position) 1 before after (omega arith) (inl (omega arith)) sized same;
  slots = λ header holds. (
      let is = small_held before area header holds in
      record {
        slots = λ layer least most named. (
            let small = slot_small header layer is in
            slot_apart layer (slot_in header layer).which (log_sector position) 1 before after most small (inr (omega (arith, small, most))) sized same);
      });
  log = λ header holds other less. (
      let is = small_held before area header holds in
      sector_apart (log_sector other) (log_sector position) 1 before after (omega (arith, less, is.most)) (inl (omega (arith, less, free header holds))) sized same);
  unused = λ n is. unused_apart n (log_sector position) 1 before after is (by_place n is) sized same;
}
  where
    by_place : (n : ℕ) → IsUnused n → (n < log_sector position) ⊎ (log_sector position + 1 ≤ n)
    by_place n (inl low) = inl (omega (arith, low.1))
    by_place n (inr high) = inr (omega (arith, few, high.0))

-- the other header area
pub torn_header : OtherHeadersAreFree
torn_header before after area low sized same = record {
  header = other_area area low same;
  slots = λ header holds. (
      let is = small_held before area header holds in
      record {
        slots = λ layer least most named. slot_apart layer (slot_in header layer).which (header_sector (1 - area)) 1 before after most (slot_small header layer is) (inl (omega (arith, low))) sized same;
      });
  log = λ header holds other less. (
      let is = small_held before area header holds in
      sector_apart (log_sector other) (header_sector (1 - area)) 1 before after (omega (arith, less, is.most)) (inr (omega (arith, low))) sized same);
  unused = λ n is. unused_apart n (header_sector (1 - area)) 1 before after is (inr (omega (arith, above_codes n is))) sized same;
}
  where
    other_area : (a : ℕ) → a ≤ 1 → DiffersOnlyIn (header_sector (1 - a)) 1 before after → sector after (header_sector a) ≡ sector before (header_sector a)
    other_area zero le at = sector_apart 0 1 1 before after (omega arith) (inl (omega arith)) sized at
    other_area (suc zero) le at = sector_apart 1 0 1 before after (omega arith) (inr (omega arith)) sized at
    other_area (suc (suc n)) le at = absurd (omega (arith, le))

-- a slot that no header names
pub torn_code : UnnamedSlotsAreFree
torn_code before after area layer free low least most one two is_free sized same = record {
  header = sector_apart (header_sector area) (code_sector layer free) 8 before after (omega arith) (inl (omega (arith, low))) sized same;
  slots = λ header holds. (
      let is = small_held before area header holds in
      record {
        slots = λ named_layer some few named. (
            let small = slot_small header named_layer is in
            slot_apart named_layer (slot_in header named_layer).which (code_sector layer free) 8 before after few small
            (slots_apart named_layer (slot_in header named_layer).which layer free some (positive (slot_in header named_layer).which named) small least one two
            (λ e f. is_free header holds (subst (λ n. (slot_in header n).which ≡ free) e f))) sized same);
      });
  log = λ header holds other less. (
      let is = small_held before area header holds in
      sector_apart (log_sector other) (code_sector layer free) 8 before after (omega (arith, less, is.most)) (inr (omega (arith, most, two))) sized same);
  unused = λ n is. unused_apart n (code_sector layer free) 8 before after is (inr (omega (arith, most, two, above_codes n is))) sized same;
}

-- ---- agreement

pub agree_same : FlashesAgreeWithThemselves
agree_same flash area = record { header = refl; slots = λ header holds. record { slots = λ layer least most named. refl }; log = λ header holds position less. refl; unused = λ n is. refl }

moved : (flash other : List ℕ) (area : ℕ) (header : Header) → sector other (header_sector area) ≡ sector flash (header_sector area) → HoldsHeader flash area header → HoldsHeader other area header
moved flash other area header same holds = subst (λ (bytes : List ℕ). BeginsAs header_format bytes header) (sym same) holds

-- one write after another
pub agree_then : AgreementGoesOn
agree_then flash between other area first second = record {
  header = second.header ∙ first.header;
  slots = λ header holds. (
      let one = (first.slots header holds).slots in
      let two = (second.slots header (moved flash between area header first.header holds)).slots in
      record { slots = λ layer least most named. two layer least most named ∙ one layer least most named });
  log = λ header holds position less. second.log header (moved flash between area header first.header holds) position less ∙ first.log header holds position less;
  unused = λ n is. second.unused n is ∙ first.unused n is;
}

-- whichever of the two comes first
pub agree_turned : AgreementGoesBack
agree_turned flash other area agree = record {
  header = sym agree.header;
  slots = λ header holds. (
      let slots = (agree.slots header (moved other flash area header (sym agree.header) holds)).slots in
      record { slots = λ layer least most named. sym (slots layer least most named) });
  log = λ header holds position less. sym (agree.log header (moved other flash area header (sym agree.header) holds) position less);
  unused = λ n is. sym (agree.unused n is);
}
