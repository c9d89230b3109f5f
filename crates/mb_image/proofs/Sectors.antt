-- What the sectors of a flash hold, found piece by piece.
use Rattle.std.proofs.Common.{◌≡◌, ◌<◌, ◌≤◌, ℕ, ◌+◌, ◌-◌, ◌*◌, List, [], ◌∷◌, ◌++◌, inl, inr, length, take, drop, Bor, Bool, true, false, Option, None, Some, refl, sym, ap, subst, ◌∙◌, arith, length-append}
use Rattle.std.specs.Prelude.{◌==◌, IfSome}
use Rattle.std.specs.Int.{w32}
use Rattle.std.specs.Option.{option_copied}
use Rattle.std.proofs.lemmas.List.{take-take}
use Rattle.mb_format.specs.Format.{IsBytes, SpelledAt, Spells}
use Rattle.mb_format.specs.Combinators.{between, either, items}
use Rattle.mb_format.proofs.Exact.{IsClear-from_exact}
use Rattle.mb_format.proofs.Whole.{whole_from, IsClearWhole-from_exact}
use Rattle.mb_model.specs.declared.entry.Entry.{Entry}
use Rattle.mb_model.specs.declared.entry.SignedEntry.{SignedEntry}
use Rattle.mb_model.specs.declared.state.Codes.{Codes}
use Rattle.mb_model.specs.declared.stored.Slot.{Slot}
use Rattle.mb_model.specs.declared.stored.Header.{Header}
use Rattle.mb_model.specs.declared.stored.Root.{Root}
use Rattle.mb_model.specs.records.EntryFormat.{entry_format}
use Rattle.mb_model.specs.records.HeaderFormat.{code_length_format, slot_format, entry_bytes_format, unsigned_format, header_format, log_format}
use Rattle.mb_model.specs.memories.Sectors.{code_sector, log_sector, BeginsAs}
use Rattle.mb_model.specs.memories.StoredLog.{how_many_unsigned, CanSign}
use Rattle.mb_model.specs.memories.Flash.{sector, code_slot, HoldsHeader, HoldsCode, HoldsEntry, HoldsLog, AreBytesOf, HoldsPublic}
use Rattle.mb_model.specs.memories.Faults.{SomePublic}
use Rattle.mb_model.proofs.EntryFormatLaws.{entry_exact}
use Rattle.mb_model.proofs.HeaderFormatLaws.{log_exact}
use Rattle.mb_model_lemmas.proofs.OneFlash.{IsBytes-sector, one_header, no_list}
use Rattle.mb_model_lemmas.proofs.HeldSegments.{log_push}
use Rattle.mb_segments.specs.declared.header.StoredHeader.{StoredHeader}
use Rattle.mb_segments.specs.Beginnings.{FindsBeginning}
use Rattle.mb_segments.specs.Uncopied.{header_of}
use Rattle.mb_image.specs.Segments.{IsSlot, IsReadable, LacksEntry, IsLogOf, texts_among, text_count}

-- ---- the header

length_by : (none : Bool) (n : ℕ) → (either none (between w32 0 0) (between w32 0 32768)).Allowed n → n ≤ 32768
length_by true n is = omega (arith, is.1)
length_by false n is = is.1

slot_readable : (slot : Slot) → slot_format.Allowed slot → IsSlot slot
unfolding slot_format code_length_format
slot_readable slot is = record { which = is.0.1; length = length_by (slot.which == 0) slot.length is.1 }

abbrev IsShortText : Option (List ℕ) → Type 0
IsShortText text = IfSome text (λ bytes. length bytes ≤ 4194304)

texts_readable : (signed : ℕ) (first second : Option (List ℕ)) → (unsigned_format signed).Allowed (first, second) → IsShortText first × IsShortText second
unfolding unsigned_format entry_bytes_format items
texts_readable signed None None is = (tt, tt)
texts_readable signed None (Some second) is = absurd is
texts_readable signed (Some first) None is = (omega (arith, is.1.0.0.1), tt)
texts_readable signed (Some first) (Some second) is = (omega (arith, is.1.0.0.1), omega (arith, is.1.1.0.0.1))

readable : (header : Header) → header_format.Allowed header → IsReadable header
unfolding header_format
readable header is =
    let texts = texts_readable header.signed header.first header.second is.1.1.1.1.1 in
    record {
      one = slot_readable header.one is.1.0;
      two = slot_readable header.two is.1.1.0;
      three = slot_readable header.three is.1.1.1.0;
      signed = is.1.1.1.1.0.1;
      first = texts.0;
      second = texts.1;
    }

-- what a sector begins with is readable
begun_readable : (bytes : List ℕ) (header : Header) → BeginsAs header_format bytes header → IsReadable header
begun_readable bytes header begins = readable header begins.spelled.allowed

pub found_readable : (bytes : List ℕ) (found : Option StoredHeader) → FindsBeginning header_of header_format bytes found → IfSome found (λ header. IsReadable (header_of header))
found_readable bytes None finds = tt
found_readable bytes (Some header) finds = begun_readable bytes (header_of header) finds

-- ---- code

pub code_found : (flash : List ℕ) (layer which count start : ℕ) → start ≡ 4096 * code_sector layer which → count ≤ 32768 → take (start + count - start) (drop start flash) ≡ take count (code_slot flash layer which)
unfolding code_slot
code_found flash layer which count start is short =
    let long : start + count - start ≡ count = omega arith in
    ap (λ n. take n (drop start flash)) long
    ∙ ap (λ k. take count (drop k flash)) is
    ∙ sym (take-take count 32768 (drop (4096 * code_sector layer which) flash) short)

-- ---- entries

-- bytes spell what was read of them, where none are left
pub entry_whole : (text bytes : List ℕ) (entry : Entry) (start after : ℕ) → bytes ≡ text → start ≡ 0 → SpelledAt entry_format.spelling entry_format.Allowed bytes start entry after → length text ≤ after
    → Spells entry_format text entry
entry_whole text bytes entry start after is first spelled all =
    let s : SpelledAt entry_format.spelling entry_format.Allowed text 0 entry after = subst (λ n. SpelledAt entry_format.spelling entry_format.Allowed text n entry after) first (subst (λ b. SpelledAt entry_format.spelling entry_format.Allowed b start entry after) is spelled) in
    whole_from entry_format text entry after s all

-- they spell none where some are left
pub entry_left : (text bytes : List ℕ) (entry : Entry) (start after : ℕ) → IsBytes text → bytes ≡ text → start ≡ 0 → SpelledAt entry_format.spelling entry_format.Allowed bytes start entry after → after < length text
    → (any : Entry) → Spells entry_format text any → ⊥
entry_left text bytes entry start after are is first spelled left any spells =
    let s : SpelledAt entry_format.spelling entry_format.Allowed text 0 entry after = subst (λ n. SpelledAt entry_format.spelling entry_format.Allowed text n entry after) first (subst (λ b. SpelledAt entry_format.spelling entry_format.Allowed b start entry after) is spelled) in
    (IsClearWhole-from_exact entry_exact).never_both text any after are spells (inr (record { value = entry; spelled = s; left = left }))

-- and where reading fails
pub entry_failed : (text bytes : List ℕ) (start at : ℕ) → IsBytes text → bytes ≡ text → start ≡ 0 → entry_format.FailsAt bytes start at → (any : Entry) → Spells entry_format text any → ⊥
entry_failed text bytes start at are is first fails any spells =
    let f : entry_format.FailsAt text 0 at = subst (λ n. entry_format.FailsAt text n at) first (subst (λ b. entry_format.FailsAt b start at) is fails) in
    (IsClearWhole-from_exact entry_exact).never_both text any at are spells (inl f)

-- ---- sectors of the log

pub log_text_short : (bytes text signature : List ℕ) → BeginsAs log_format bytes (text, signature) → length text ≤ 4194304
unfolding log_format entry_bytes_format
log_text_short bytes text signature begins = omega (arith, begins.spelled.allowed.0.0.1)

one_sector : (bytes : List ℕ) (a b : List ℕ × List ℕ) → IsBytes bytes → BeginsAs log_format bytes a → BeginsAs log_format bytes b → a ≡ b
one_sector bytes a b are one other =
    ((IsClear-from_exact log_exact).one_value bytes 0 a b one.after other.after (record { are_bytes = are; within = omega arith }) one.spelled other.spelled).0

-- a sector holds no entry where nothing begins it
pub no_sector : (bytes there : List ℕ) → bytes ≡ there → ((a : List ℕ × List ℕ) → BeginsAs log_format bytes a → ⊥) → (signed : SignedEntry) → HoldsEntry there signed → ⊥
no_sector bytes there is none signed holds = none (holds.text, signed.signature) (subst (λ (b : List ℕ). BeginsAs log_format b (holds.text, signed.signature)) (sym is) holds.begins)

-- nor where the text that begins it spells none
pub no_entry : (flash : List ℕ) (n : ℕ) (bytes text signature : List ℕ) → IsBytes flash → bytes ≡ sector flash n → BeginsAs log_format bytes (text, signature)
    → ((entry : Entry) → Spells entry_format text entry → ⊥) → (signed : SignedEntry) → HoldsEntry (sector flash n) signed → ⊥
no_entry flash n bytes text signature are is begins none signed holds =
    let here = subst (λ (b : List ℕ). BeginsAs log_format b (text, signature)) is begins in
    let same : ◌≡◌ {A = List ℕ × List ℕ} (holds.text, signed.signature) (text, signature) = one_sector (sector flash n) _ _ (IsBytes-sector flash n are) holds.begins here in
    none signed.entry (subst (λ (t : List ℕ). Spells entry_format t signed.entry) (ap (λ (p : List ℕ × List ℕ). p.0) same) holds.spelled)

-- the entry that was found
pub found_entry : (bytes there : List ℕ) → bytes ≡ there → (text : List ℕ) (signed : SignedEntry) → BeginsAs log_format bytes (text, signed.signature) → Spells entry_format text signed.entry → HoldsEntry there signed
found_entry bytes there is text signed begins spelled = record { text = text; begins = subst (λ (b : List ℕ). BeginsAs log_format b (text, signed.signature)) is begins; spelled = spelled }

pub empty_log : (flash : List ℕ) (log : List SignedEntry) → log ≡ [] → HoldsLog flash log
empty_log flash log is = record { each = λ before signed rest split. (let size : 0 ≡ length (before ++ signed ∷ rest) = sym (ap length is) ∙ ap length split in absurd (omega (arith, size, length-append before (signed ∷ rest)))) }

-- what a log keeps while it is read
pub log_more : (flash : List ℕ) (log more : List SignedEntry) (signed : SignedEntry) (position : ℕ) → length log ≡ position → HoldsLog flash log → HoldsEntry (sector flash (log_sector position)) signed → more ≡ log ++ signed ∷ []
    → record { count : length more ≡ position + 1; holds : HoldsLog flash more }
log_more flash log more signed position count holds own is = record {
  count = omega (arith, ap length is, length-append log (signed ∷ []), count);
  holds = subst (HoldsLog flash) (sym is) (log_push flash log signed holds (subst (λ n. HoldsEntry (sector flash (log_sector n)) signed) (sym count) own));
}

-- ---- unsigned entries

-- as many entries as texts
pub texts_counted : (first second : Option (List ℕ)) (entries : List Entry) → AreBytesOf first second entries → length entries ≡ texts_among first second
texts_counted None None [] are = refl
texts_counted None None (u ∷ us) are = absurd are
texts_counted None (Some second) us are = absurd are
texts_counted (Some first) None [] are = absurd are
texts_counted (Some first) None (u ∷ []) are = refl
texts_counted (Some first) None (u ∷ v ∷ us) are = absurd are
texts_counted (Some first) (Some second) [] are = absurd are
texts_counted (Some first) (Some second) (u ∷ []) are = absurd are
texts_counted (Some first) (Some second) (u ∷ v ∷ []) are = refl
texts_counted (Some first) (Some second) (u ∷ v ∷ w ∷ us) are = absurd are

-- the entries of two texts
pub two_spelled : (first second : Option (Bor (List ℕ))) (a b : Bor (List ℕ)) (u v : Entry) (list : List Entry) → first ≡ Some a → second ≡ Some b → Spells entry_format a.now u → Spells entry_format b.now v
    → list ≡ u ∷ v ∷ [] → AreBytesOf (option_copied first) (option_copied second) list
two_spelled first second a b u v list one two spells other is =
    subst (λ (x : Option (Bor (List ℕ))). AreBytesOf (option_copied x) (option_copied second) list) (sym one)
    (subst (λ (y : Option (Bor (List ℕ))). AreBytesOf (Some a.now) (option_copied y) list) (sym two)
    (subst (AreBytesOf (Some a.now) (Some b.now)) (sym is) (spells, other)))

-- ---- all of it

-- a flash of bytes holds no other header than the one that is read
pub only_header : (flash : List ℕ) (area : ℕ) (header : Header) → IsBytes flash → HoldsHeader flash area header → (any : Header) → HoldsHeader flash area any → any ≡ header
only_header flash area header are holds any other = one_header flash area any header are other holds

-- nothing is held where no header begins the area
pub none_begun : (flash : List ℕ) (root : Root) → ((header : Header) → HoldsHeader flash root.area header → ⊥) → SomePublic flash root → ⊥
none_begun flash root none some = none some.3.header some.3.begins

module _ (flash : List ℕ) (root : Root) (header : Header) (are : IsBytes flash) (begins : HoldsHeader flash root.area header) where
  -- how many entries there are
  pub entries_counted : (codes : Codes) (signed : List SignedEntry) (unsigned : List Entry) → HoldsPublic flash root codes signed unsigned → header.signed + text_count header ≡ length signed + length unsigned
  entries_counted codes signed unsigned holds =
      let same : holds.header ≡ header = only_header flash root.area header are begins holds.header holds.begins in
      let signed_same : length signed ≡ header.signed = holds.count ∙ ap (λ (h : Header). h.signed) same in
      let unsigned_same : length unsigned ≡ text_count header = texts_counted holds.header.first holds.header.second unsigned holds.unsigned_are ∙ ap text_count same in
      omega (arith, signed_same, unsigned_same)

  -- nothing is held where the texts are not as many as the root says
  pub none_counted : (text_count header ≡ how_many_unsigned root.pending → CanSign root.pending → ⊥) → SomePublic flash root → ⊥
  none_counted never some =
      let holds = some.3 in
      let same : holds.header ≡ header = only_header flash root.area header are begins holds.header holds.begins in
      never (sym (texts_counted holds.header.first holds.header.second some.2 holds.unsigned_are ∙ ap text_count same) ∙ holds.counted.counted) holds.counted.can_sign

  -- nor where they spell no entries
  pub none_unsigned : ((unsigned : List Entry) → AreBytesOf header.first header.second unsigned → ⊥) → SomePublic flash root → ⊥
  none_unsigned never some =
      let holds = some.3 in
      let same : holds.header ≡ header = only_header flash root.area header are begins holds.header holds.begins in
      never some.2 (subst (λ (h : Header). AreBytesOf h.first h.second some.2) same holds.unsigned_are)

  -- nor where a sector that is counted holds no entry
  pub none_signed : LacksEntry flash header.signed → SomePublic flash root → ⊥
  none_signed lacks some =
      no_list flash root header lacks.position (only_header flash root.area header are begins) lacks.below lacks.none some.0 some.1 some.2 some.3

  -- what was read is held
  pub all_held : (codes : Codes) (signed : List SignedEntry) (unsigned : List Entry) → HoldsCode flash 1 header.one codes.one → HoldsCode flash 2 header.two codes.two → HoldsCode flash 3 header.three codes.three
      → IsLogOf flash header.signed signed → AreBytesOf header.first header.second unsigned → text_count header ≡ how_many_unsigned root.pending → CanSign root.pending → HoldsPublic flash root codes signed unsigned
  all_held codes signed unsigned one two three log texts counted can = record {
    header = header;
    begins = begins;
    one = one;
    two = two;
    three = three;
    count = log.count_is;
    log = log.holds;
    unsigned_are = texts;
    counted = record { counted = texts_counted header.first header.second unsigned texts ∙ counted; can_sign = can };
  }
