-- What stands in a flash in segments can be spelled, and what was written there stands.
use Rattle.std.proofs.Common.{refl, ◌≡◌, ◌≤◌, ℕ, ◌+◌, ◌*◌, List, [], ◌∷◌, ◌++◌, inl, inr, length, take, drop, Option, None, Some, sym, ap, subst, ◌∙◌, arith, length-append, Bool, true, false, ◌-◌}
use Rattle.std.specs.Prelude.{All, IfSome, nat_le, if◌then◌else◌}
use Rattle.std.proofs.lemmas.List.{length-take, take-take, take-append-drop}
use Rattle.std.proofs.lemmas.Bool.{leb-true}
use Rattle.std.proofs.lemmas.List.Elements.{All-nil, All-cons}
use Rattle.std.proofs.Math.Seq.{append_snoc}
use Rattle.mb_format.specs.Format.{Format, Spells}
use Rattle.mb_model.specs.declared.entry.Entry.{Entry}
use Rattle.mb_model.specs.declared.entry.SignedEntry.{SignedEntry}
use Rattle.mb_model.specs.declared.stored.Slot.{Slot}
use Rattle.mb_model.specs.declared.stored.Header.{Header}
use Rattle.mb_model.specs.records.EntryFormat.{entry_format, signed_entry_format}
use Rattle.mb_model.specs.outside.Pieces.{part}
use Rattle.mb_model.specs.records.HeaderFormat.{slot_format, unsigned_limit, unsigned_format, header_format, log_format}
use Rattle.mb_model.specs.memories.Sectors.{code_sector, log_sector, BeginsAs}
use Rattle.mb_model.specs.memories.Flash.{sector, code_slot, HoldsHeader, HoldsCode, HoldsEntry, HoldsLog, AreBytesOf, HoldsPublic}
use Rattle.mb_model.proofs.AllowedFields.{header_fields}
use Rattle.mb_model_lemmas.specs.FormLaws.{HoldsFittingParts}
use Rattle.mb_model_lemmas.specs.SegmentLaws.{IsSmallHeader, HeldSegmentsFit, SpellsLog}
use Rattle.mb_model_lemmas.proofs.LogLemmas.{split_push}
use Rattle.mb_model_lemmas.proofs.Splits.{All-from_splits}

-- ---- what stands can be spelled

pub small_header : (header : Header) → header_format.Allowed header → IsSmallHeader header
unfolding slot_format
small_header header is =
    let its = header_fields header is in
    record {
      one = its.one.0.1;
      two = its.two.0.1;
      three = its.three.0.1;
      least = its.some_signed;
      most = its.few_signed;
    }

pub small_held : (flash : List ℕ) (area : ℕ) (header : Header) → HoldsHeader flash area header → IsSmallHeader header
small_held flash area header holds = small_header header holds.spelled.allowed

entry_allowed : (bytes : List ℕ) (signed : SignedEntry) → HoldsEntry bytes signed → signed_entry_format.Allowed signed
unfolding signed_entry_format log_format
entry_allowed bytes signed holds = (holds.spelled.allowed, holds.begins.spelled.allowed.1)

pub log_allowed : (flash : List ℕ) (log : List SignedEntry) → HoldsLog flash log → All signed_entry_format.Allowed log
log_allowed flash log holds =
    All-from_splits signed_entry_format.Allowed log (λ before signed rest split. entry_allowed (sector flash (log_sector (length before))) signed (holds.each before signed rest split))

pub texts_allowed : (first second : Option (List ℕ)) (unsigned : List Entry) → AreBytesOf first second unsigned → All entry_format.Allowed unsigned
texts_allowed None None [] are = All-nil entry_format.Allowed
texts_allowed None None (u ∷ us) are = absurd are
texts_allowed None (Some second) us are = absurd are
texts_allowed (Some first) None [] are = absurd are
texts_allowed (Some first) None (u ∷ []) are = All-cons entry_format.Allowed u [] are.allowed (All-nil entry_format.Allowed)
texts_allowed (Some first) None (u ∷ v ∷ us) are = absurd are
texts_allowed (Some first) (Some second) [] are = absurd are
texts_allowed (Some first) (Some second) (u ∷ []) are = absurd are
texts_allowed (Some first) (Some second) (u ∷ v ∷ []) are =
    All-cons entry_format.Allowed u (v ∷ []) are.0.allowed (All-cons entry_format.Allowed v [] are.1.allowed (All-nil entry_format.Allowed))
texts_allowed (Some first) (Some second) (u ∷ v ∷ w ∷ us) are = absurd are

pub code_short : (flash : List ℕ) (layer : ℕ) (slot : Slot) (code : List ℕ) → HoldsCode flash layer slot (Some code) → length code ≤ 32768
unfolding code_slot
code_short flash layer slot code holds =
    let whole : List ℕ = take 32768 (drop (4096 * code_sector layer slot.which) flash) in
    omega (arith, ap length holds.1, length-take slot.length whole, length-take 32768 (drop (4096 * code_sector layer slot.which) flash))

code_fits : (flash : List ℕ) (layer : ℕ) (slot : Slot) (code : Option (List ℕ)) → HoldsCode flash layer slot code → IfSome code (λ bytes. length bytes ≤ 32768)
code_fits flash layer slot None holds = tt
code_fits flash layer slot (Some code) holds = code_short flash layer slot code holds

room_by : (b : Bool) (signed : ℕ) → nat_le (signed + 2) 128 ≡ b → signed ≤ 128 → signed + (if b then 2 else 128 - signed) ≤ 128
room_by true signed e few = omega (arith, leb-true (signed + 2) 128 e)
room_by false signed e few = omega (arith, few)

pub room_for_unsigned : (signed : ℕ) → signed ≤ 128 → signed + unsigned_limit signed ≤ 128
room_for_unsigned signed few = room_by (nat_le (signed + 2) 128) signed refl few

texts_few : (signed : ℕ) (first second : Option (List ℕ)) (unsigned : List Entry) → (unsigned_format signed).Allowed (first, second) → AreBytesOf first second unsigned → length unsigned ≤ unsigned_limit signed
unfolding unsigned_format
texts_few signed None None [] is are = omega arith
texts_few signed None None (u ∷ us) is are = absurd are
texts_few signed None (Some second) us is are = absurd are
texts_few signed (Some first) None [] is are = absurd are
texts_few signed (Some first) None (u ∷ []) is are = is.0.1
texts_few signed (Some first) None (u ∷ v ∷ us) is are = absurd are
texts_few signed (Some first) (Some second) [] is are = absurd are
texts_few signed (Some first) (Some second) (u ∷ []) is are = absurd are
texts_few signed (Some first) (Some second) (u ∷ v ∷ []) is are = is.0.1
texts_few signed (Some first) (Some second) (u ∷ v ∷ w ∷ us) is are = absurd are

pub header_texts : (header : Header) → header_format.Allowed header
    → (unsigned_format header.signed).Allowed (header.first, header.second)
header_texts header is = (header_fields header is).texts

pub segments_fit : HeldSegmentsFit
segments_fit flash root codes signed unsigned holds =
    let header : Header = holds.header in
    let is : IsSmallHeader header = small_held flash root.area header holds.begins in
    let few : length unsigned ≤ unsigned_limit header.signed = texts_few header.signed header.first header.second unsigned (header_texts header holds.begins.spelled.allowed) holds.unsigned_are in
    record {
      codes_fit = record { one = code_fits flash 1 header.one codes.one holds.one; two = code_fits flash 2 header.two codes.two holds.two; three = code_fits flash 3 header.three codes.three holds.three };
      log_fits = record { some = omega (arith, holds.count, is.least); few = omega (arith, holds.count, is.most); allowed = log_allowed flash signed holds.log };
      unsigned_allowed = texts_allowed header.first header.second unsigned holds.unsigned_are;
      together = omega (arith, few, holds.count, room_for_unsigned header.signed is.most);
    }

pub segments_parts_fit : HoldsFittingParts HoldsPublic
segments_parts_fit flash root codes signed unsigned holds =
    let fit = segments_fit flash root codes signed unsigned holds in
    record { codes_fit = fit.codes_fit; signed_allowed = fit.log_fits.allowed; unsigned_allowed = fit.unsigned_allowed; together = fit.together }

-- ---- what was written stands

-- bytes begin with a value, where their first ones spell it
pub begins_with : {A : Type 0} (format : Format A) (bytes front : List ℕ) (a : A) → Spells format front a → take (length front) bytes ≡ front → BeginsAs format bytes a
begins_with format bytes front a spells stands = record {
  after = length front;
  spelled = record {
    allowed = spells.allowed;
    here = sym (take-append-drop (length front) bytes) ∙ ap (λ (xs : List ℕ). xs ++ drop (length front) bytes) (stands ∙ spells.whole);
    ends = omega (arith, ap length spells.whole);
    within = omega (arith, ap length stands, length-take (length front) bytes);
  };
}

-- a sector begins with what stands where it does
pub front_of_sector : (flash front : List ℕ) (n : ℕ) → length front ≤ 4096 → part (4096 * n) (length front) flash ≡ front → take (length front) (sector flash n) ≡ front
unfolding sector
front_of_sector flash front n short stands = take-take (length front) 4096 (drop (4096 * n) flash) short ∙ stands

-- and so does a slot
pub front_of_slot : (flash front : List ℕ) (layer slot : ℕ) → length front ≤ 32768 → part (4096 * code_sector layer slot) (length front) flash ≡ front → take (length front) (code_slot flash layer slot) ≡ front
unfolding code_slot
front_of_slot flash front layer slot short stands = take-take (length front) 32768 (drop (4096 * code_sector layer slot) flash) short ∙ stands

-- a sector that begins with these bytes holds the entry
pub holds_entry : (bytes front : List ℕ) (signed : SignedEntry) → SpellsLog front signed → take (length front) bytes ≡ front → HoldsEntry bytes signed
holds_entry bytes front signed spells stands = record {
  text = spells.text;
  begins = begins_with log_format bytes front (spells.text, signed.signature) spells.whole stands;
  spelled = spells.entry;
}

-- ---- logs

-- a log with one more entry, which stands in the next sector
pub log_push : (flash : List ℕ) (log : List SignedEntry) (signed : SignedEntry) → HoldsLog flash log → HoldsEntry (sector flash (log_sector (length log))) signed → HoldsLog flash (log ++ signed ∷ [])
log_push flash log signed holds own = record {
  each = λ before s rest split. elim (split_push log before rest signed s split) [
    | inl end ↦ subst (λ (b : List SignedEntry). HoldsEntry (sector flash (log_sector (length b))) s) end.1 (subst (λ (x : SignedEntry). HoldsEntry (sector flash (log_sector (length log))) x) end.2 own)
    | inr found ↦ holds.each before s found.0 found.2
  ];
}

-- two more entries, each in its sector
pub log_push_two : (flash : List ℕ) (log : List SignedEntry) (first second : SignedEntry) → HoldsLog flash log
    → HoldsEntry (sector flash (log_sector (length log))) first → HoldsEntry (sector flash (log_sector (length log + 1))) second → HoldsLog flash (log ++ first ∷ second ∷ [])
log_push_two flash log first second holds one two =
    let size : length log + 1 ≡ length (log ++ first ∷ []) = sym (length-append log (first ∷ [])) in
    subst (HoldsLog flash) (append_snoc log first (second ∷ []))
    (log_push flash (log ++ first ∷ []) second (log_push flash log first holds one) (subst (λ n. HoldsEntry (sector flash (log_sector n)) second) size two))
