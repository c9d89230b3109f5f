-- A flash in segments that is written from nothing holds its codes and its log.
use Rattle.std.proofs.Common.{◌≡◌, ◌≤◌, ℕ, ◌*◌, ◌-◌, List, [], ◌∷◌, ◌++◌, length, take, drop, Option, None, Some, refl, sym, ap, subst, ◌∙◌, arith, append_assoc, length-append}
use Rattle.std.specs.Prelude.{All, IfSome}
use Rattle.std.proofs.lemmas.List.{take-take}
use Rattle.std.proofs.lemmas.List.Elements.{All-head, All-tail}
use Rattle.std.proofs.Math.Seq.{take-append_seam, drop-append_seam}
use Rattle.mb_format.specs.Format.{Spells}
use Rattle.mb_format.specs.Combinators.{number_bytes, items}
use Rattle.mb_model.specs.declared.entry.Entry.{Entry}
use Rattle.mb_model.specs.declared.entry.SignedEntry.{SignedEntry}
use Rattle.mb_model.specs.declared.state.Codes.{Codes}
use Rattle.mb_model.specs.declared.stored.Root.{Root}
use Rattle.mb_model.specs.outside.Board.{erased_bytes}
use Rattle.mb_model.specs.records.EntryFormat.{entry_format, signed_entry_format}
use Rattle.mb_model.specs.records.HeaderFormat.{code_length_format, slot_format, entry_bytes_format, unsigned_format, header_format, log_format}
use Rattle.mb_model.specs.outside.Pieces.{part}
use Rattle.mb_model.specs.memories.Sectors.{code_sector, log_sector}
use Rattle.mb_model.specs.memories.Flash.{sector, code_slot, HoldsHeader, HoldsCode, HoldsLog, HoldsPublic}
use Rattle.mb_model.specs.memories.StoredLog.{AreCounted}
use Rattle.mb_model.specs.memories.WrittenFlash.{in_sectors, first_slot, slots_with, entry_in_log, sectors_of, first_header, written_flash, CodesFitSlots, LogFitsSectors}
use Rattle.mb_model.proofs.FormatBounds.{entry_short, header_short, log_short}
use Rattle.mb_model.proofs.Places.{length-erased}
use Rattle.mb_model_lemmas.specs.SegmentLaws.{EntriesFitTheirSectors, WrittenFlashIsWhole, WrittenFlashHolds}
use Rattle.mb_model_lemmas.proofs.HeldSegments.{begins_with, front_of_sector, holds_entry}
use Rattle.mb_model_lemmas.proofs.PublicLemmas.{entry_from_signed}
use Rattle.mb_model_lemmas.proofs.ListLemmas.{All-front, All-back}

-- ---- pieces

-- a piece stands where the pieces before it end
pub stands_at : (pre bytes post flash : List ℕ) (at : ℕ) → flash ≡ pre ++ (bytes ++ post) → length pre ≡ at → part at (length bytes) flash ≡ bytes
stands_at pre bytes post flash at whole size =
    ap (λ (xs : List ℕ). part at (length bytes) xs) whole
    ∙ ap (λ k. part k (length bytes) (pre ++ (bytes ++ post))) (sym size)
    ∙ ap (take (length bytes)) (drop-append_seam pre (bytes ++ post))
    ∙ take-append_seam bytes post

length-in_sectors : (n : ℕ) (bytes : List ℕ) → length bytes ≤ 4096 * n → length (in_sectors n bytes) ≡ 4096 * n
unfolding in_sectors
length-in_sectors n bytes short = omega (arith, length-append bytes (erased_bytes (4096 * n - length bytes)), length-erased (4096 * n - length bytes), short)

-- a piece with its erased bytes, and what follows
opened : (n : ℕ) (bytes post : List ℕ) → in_sectors n bytes ++ post ≡ bytes ++ (erased_bytes (4096 * n - length bytes) ++ post)
unfolding in_sectors
opened n bytes post = append_assoc bytes (erased_bytes (4096 * n - length bytes)) post

-- a list of pieces, with the first of them joined
joined : (flash a b c : List ℕ) → flash ≡ a ++ (b ++ c) → flash ≡ (a ++ b) ++ c
joined flash a b c e = e ∙ sym (append_assoc a b c)

-- ---- codes

abbrev Fits : Option (List ℕ) → Type 0
Fits code = IfSome code (λ bytes. length bytes ≤ 32768)

length-slots : (code : Option (List ℕ)) → Fits code → length (slots_with code) ≡ 65536
unfolding slots_with
length-slots None fits = length-in_sectors 16 [] (omega arith)
length-slots (Some code) fits = length-in_sectors 16 code (omega (arith, fits))

code_in : (layer : ℕ) (code : Option (List ℕ)) (pre post flash : List ℕ) → Fits code → flash ≡ pre ++ (slots_with code ++ post) → length pre ≡ 4096 * code_sector layer 1
    → HoldsCode flash layer (first_slot code) code
unfolding slots_with code_slot
code_in layer None pre post flash fits whole size = refl
code_in layer (Some code) pre post flash fits whole size =
    let after : List ℕ = erased_bytes (4096 * 16 - length code) ++ post in
    let pieces : flash ≡ pre ++ (code ++ after) = whole ∙ ap (λ (xs : List ℕ). pre ++ xs) (opened 16 code post) in (
      (λ e. omega (arith, e)),
      sym (take-take (length code) 32768 (drop (4096 * code_sector layer 1) flash) fits ∙ stands_at pre code after flash (4096 * code_sector layer 1) pieces size),
    )

-- ---- the log

pub entry_some : (entry : Entry) → 1 ≤ length (entry_format.spelling entry)
unfolding entry_format number_bytes
entry_some entry = omega arith

pub entry_spells : (signed : SignedEntry) → signed_entry_format.Allowed signed → Spells log_format (entry_in_log signed) (entry_format.spelling signed.entry, signed.signature)
unfolding log_format entry_bytes_format signed_entry_format
entry_spells signed is = record { allowed = (((omega (arith, entry_some signed.entry), omega (arith, entry_short.short signed.entry is.0)), refl), is.1); whole = refl }

pub entry_fits : (signed : SignedEntry) → signed_entry_format.Allowed signed → length (entry_in_log signed) ≤ 2750
entry_fits signed is = log_short.short _ (entry_spells signed is).allowed

pub entry_has_bytes : EntriesFitTheirSectors
entry_has_bytes signed is =
    (record { text = entry_format.spelling signed.entry; whole = entry_spells signed is; entry = record { allowed = entry_from_signed signed is; whole = refl } }, omega (arith, entry_fits signed is))

-- the sectors of a log: those before an entry, its own, and those after it
pub sectors_split : (before : List SignedEntry) (signed : SignedEntry) (rest : List SignedEntry) → sectors_of (before ++ signed ∷ rest) ≡ sectors_of before ++ (in_sectors 1 (entry_in_log signed) ++ sectors_of rest)
unfolding sectors_of
sectors_split [] signed rest = refl
sectors_split (first ∷ before) signed rest =
    ap (λ (xs : List ℕ). in_sectors 1 (entry_in_log first) ++ xs) (sectors_split before signed rest)
    ∙ sym (append_assoc (in_sectors 1 (entry_in_log first)) (sectors_of before) (in_sectors 1 (entry_in_log signed) ++ sectors_of rest))

pub length-sectors : (log : List SignedEntry) → All signed_entry_format.Allowed log → length (sectors_of log) ≡ 4096 * length log
unfolding sectors_of
length-sectors [] are = refl
length-sectors (signed ∷ log) are =
    let own : length (entry_in_log signed) ≤ 2750 = entry_fits signed (All-head signed_entry_format.Allowed signed log are) in
    let one : length (in_sectors 1 (entry_in_log signed)) ≡ 4096 * 1 = length-in_sectors 1 (entry_in_log signed) (omega (arith, own)) in
    omega (arith, length-append (in_sectors 1 (entry_in_log signed)) (sectors_of log), one, length-sectors log (All-tail signed_entry_format.Allowed signed log are))

-- each entry stands in its sector
log_in : (log : List SignedEntry) (pre post flash : List ℕ) → All signed_entry_format.Allowed log → flash ≡ pre ++ (sectors_of log ++ post) → length pre ≡ 262144 → HoldsLog flash log
log_in log pre post flash are whole size = record {
  each = λ before signed rest split. (
      let both : All signed_entry_format.Allowed (before ++ signed ∷ rest) = subst (All signed_entry_format.Allowed) split are in
      let own : signed_entry_format.Allowed signed = All-head signed_entry_format.Allowed signed rest (All-back signed_entry_format.Allowed before (signed ∷ rest) both) in
      let front : All signed_entry_format.Allowed before = All-front signed_entry_format.Allowed before (signed ∷ rest) both in
      let text : List ℕ = entry_in_log signed in
      let after : List ℕ = sectors_of rest in
      let start : List ℕ = pre ++ sectors_of before in
      let pieces : flash ≡ start ++ (text ++ (erased_bytes (4096 * 1 - length text) ++ (after ++ post))) =
      whole
      ∙ ap (λ (xs : List SignedEntry). pre ++ (sectors_of xs ++ post)) split
      ∙ ap (λ (xs : List ℕ). pre ++ (xs ++ post)) (sectors_split before signed rest)
      ∙ ap (λ (xs : List ℕ). pre ++ xs) (append_assoc (sectors_of before) (in_sectors 1 text ++ after) post)
      ∙ sym (append_assoc pre (sectors_of before) ((in_sectors 1 text ++ after) ++ post))
      ∙ ap (λ (xs : List ℕ). start ++ xs) (append_assoc (in_sectors 1 text) after post ∙ opened 1 text (after ++ post))
      in
      let at : length start ≡ 4096 * log_sector (length before) =
      omega (arith, length-append pre (sectors_of before), length-sectors before front, size) in
      holds_entry (sector flash (log_sector (length before))) text signed (entry_has_bytes signed own).0
      (front_of_sector flash text (log_sector (length before)) (omega (arith, entry_fits signed own)) (stands_at start text (erased_bytes (4096 * 1 - length text) ++ (after ++ post)) flash (4096 * log_sector (length before)) pieces at)));
}

-- ---- the header

slot_allowed : (code : Option (List ℕ)) → Fits code → slot_format.Allowed (first_slot code)
unfolding slot_format code_length_format
slot_allowed None fits = ((omega arith, omega arith), (omega arith, omega arith))
slot_allowed (Some code) fits = ((omega arith, omega arith), (omega arith, fits))

pub none_unsigned : (signed : ℕ) → (unsigned_format signed).Allowed (None, None)
unfolding unsigned_format items
none_unsigned signed = ((omega arith, omega arith), refl)

pub first_allowed : (codes : Codes) (log : List SignedEntry) → CodesFitSlots codes → LogFitsSectors log → header_format.Allowed (first_header codes log)
unfolding header_format
first_allowed codes log fit fits =
    (tt, (slot_allowed codes.one fit.one, (slot_allowed codes.two fit.two, (slot_allowed codes.three fit.three, ((fits.some, fits.few), none_unsigned (length log))))))

-- ---- all of it

module _ (codes : Codes) (log : List SignedEntry) (fit : CodesFitSlots codes) (fits : LogFitsSectors log) where
  abbrev header : List ℕ
  header = header_format.spelling (first_header codes log)

  short_header : length header ≤ 826
  short_header = header_short.short (first_header codes log) (first_allowed codes log fit fits)

  length-written : length (written_flash codes log) ≡ 1048576
  unfolding written_flash
  length-written =
      let H : List ℕ = in_sectors 2 header in
      let A : List ℕ = slots_with codes.one in
      let B : List ℕ = slots_with codes.two in
      let C : List ℕ = slots_with codes.three in
      let E : List ℕ = in_sectors 14 [] in
      let L : List ℕ = in_sectors 128 (sectors_of log) in
      let Z : List ℕ = in_sectors 64 [] in
      let long_h : length H ≡ 8192 = length-in_sectors 2 header (omega (arith, short_header)) in
      let long_e : length E ≡ 57344 = length-in_sectors 14 [] (omega arith) in
      let long_l : length L ≡ 524288 = length-in_sectors 128 (sectors_of log) (omega (arith, length-sectors log fits.allowed, fits.few)) in
      let long_z : length Z ≡ 262144 = length-in_sectors 64 [] (omega arith) in
      omega (
        arith,
        length-append H (A ++ (B ++ (C ++ (E ++ (L ++ Z))))),
        length-append A (B ++ (C ++ (E ++ (L ++ Z)))),
        length-append B (C ++ (E ++ (L ++ Z))),
        length-append C (E ++ (L ++ Z)),
        length-append E (L ++ Z),
        length-append L Z,
        long_h,
        length-slots codes.one fit.one,
        length-slots codes.two fit.two,
        length-slots codes.three fit.three,
        long_e,
        long_l,
        long_z,
      )

  written_segments : (root : Root) → root.area ≡ 0 → root.pending ≡ None → HoldsPublic (written_flash codes log) root codes log []
  unfolding written_flash
  written_segments root first none =
      let H : List ℕ = in_sectors 2 header in
      let A : List ℕ = slots_with codes.one in
      let B : List ℕ = slots_with codes.two in
      let C : List ℕ = slots_with codes.three in
      let E : List ℕ = in_sectors 14 [] in
      let L : List ℕ = in_sectors 128 (sectors_of log) in
      let Z : List ℕ = in_sectors 64 [] in
      let flash : List ℕ = written_flash codes log in
      let long_h : length H ≡ 8192 = length-in_sectors 2 header (omega (arith, short_header)) in
      let long_a : length A ≡ 65536 = length-slots codes.one fit.one in
      let long_b : length B ≡ 65536 = length-slots codes.two fit.two in
      let long_c : length C ≡ 65536 = length-slots codes.three fit.three in
      let long_e : length E ≡ 57344 = length-in_sectors 14 [] (omega arith) in
      let at_a : flash ≡ H ++ (A ++ (B ++ (C ++ (E ++ (L ++ Z))))) = refl in
      let at_b : flash ≡ (H ++ A) ++ (B ++ (C ++ (E ++ (L ++ Z)))) = joined flash H A (B ++ (C ++ (E ++ (L ++ Z)))) at_a in
      let at_c : flash ≡ ((H ++ A) ++ B) ++ (C ++ (E ++ (L ++ Z))) = joined flash (H ++ A) B (C ++ (E ++ (L ++ Z))) at_b in
      let at_e : flash ≡ (((H ++ A) ++ B) ++ C) ++ (E ++ (L ++ Z)) = joined flash ((H ++ A) ++ B) C (E ++ (L ++ Z)) at_c in
      let front : List ℕ = (((H ++ A) ++ B) ++ C) ++ E in
      let at_l : flash ≡ front ++ (L ++ Z) = joined flash (((H ++ A) ++ B) ++ C) E (L ++ Z) at_e in
      let rest : List ℕ = erased_bytes (4096 * 128 - length (sectors_of log)) ++ Z in
      let at_log : flash ≡ front ++ (sectors_of log ++ rest) = at_l ∙ ap (λ (xs : List ℕ). front ++ xs) (opened 128 (sectors_of log) Z) in
      let after : List ℕ = A ++ (B ++ (C ++ (E ++ (L ++ Z)))) in
      let at_header : flash ≡ header ++ (erased_bytes (4096 * 2 - length header) ++ after) = at_a ∙ opened 2 header after in
      let size_a : length (H ++ A) ≡ 73728 = omega (arith, length-append H A, long_h, long_a) in
      let size_b : length ((H ++ A) ++ B) ≡ 139264 = omega (arith, length-append (H ++ A) B, size_a, long_b) in
      let size_c : length (((H ++ A) ++ B) ++ C) ≡ 204800 = omega (arith, length-append ((H ++ A) ++ B) C, size_b, long_c) in
      let size_e : length front ≡ 262144 = omega (arith, length-append (((H ++ A) ++ B) ++ C) E, size_c, long_e) in
      let begins : HoldsHeader flash 0 (first_header codes log) =
      begins_with header_format (sector flash 0) header (first_header codes log) (record { allowed = first_allowed codes log fit fits; whole = refl })
      (front_of_sector flash header 0 (omega (arith, short_header)) (stands_at [] header (erased_bytes (4096 * 2 - length header) ++ after) flash 0 at_header refl))
      in
      record {
        header = first_header codes log;
        begins = subst (λ n. HoldsHeader flash n (first_header codes log)) (sym first) begins;
        one = code_in 1 codes.one H (B ++ (C ++ (E ++ (L ++ Z)))) flash fit.one at_a long_h;
        two = code_in 2 codes.two (H ++ A) (C ++ (E ++ (L ++ Z))) flash fit.two at_b size_a;
        three = code_in 3 codes.three ((H ++ A) ++ B) (E ++ (L ++ Z)) flash fit.three at_c size_b;
        count = refl;
        log = log_in log front rest flash fits.allowed at_log size_e;
        unsigned_are = tt;
        counted = subst (λ p. AreCounted p []) (sym none) (record { counted = refl; can_sign = tt });
      }

pub written_is_whole : WrittenFlashIsWhole
written_is_whole = length-written

pub written_holds : WrittenFlashHolds
written_holds = written_segments
