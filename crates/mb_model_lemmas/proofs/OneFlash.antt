-- A flash in segments holds one header in an area, one list of codes, and one log.
use Rattle.std.proofs.Common.{◌≡◌, ◌<◌, ℕ, zero, suc, ◌+◌, ◌*◌, List, [], ◌∷◌, ◌++◌, length, drop, Option, None, Some, refl, sym, ap, subst, ◌∙◌, arith, ◌≤◌}
use Rattle.std.specs.Int.{w8, w16, to_be_bytes}
use Rattle.std.proofs.Math.Seq.{drop-append_seam}
use Rattle.std.proofs.lemmas.List.{length-take}
use Rattle.mb_format.specs.Format.{Format, IsBytes, Spells}
use Rattle.mb_format.specs.Reading.{IsExact}
use Rattle.mb_format.specs.Combinators.{number_bytes, items}
use Rattle.mb_format.proofs.Exact.{IsBytes-drop, IsBytes-take, IsBytes-spelled, IsClear-from_exact}
use Rattle.mb_format.proofs.Whole.{IsClearWhole-from_exact}
use Rattle.mb_model.specs.declared.entry.Entry.{Entry}
use Rattle.mb_model.specs.declared.entry.SignedEntry.{SignedEntry}
use Rattle.mb_model.specs.declared.state.Codes.{Codes}
use Rattle.mb_model.specs.declared.stored.Root.{Root}
use Rattle.mb_model.specs.declared.stored.Slot.{Slot}
use Rattle.mb_model.specs.declared.stored.Header.{Header}
use Rattle.mb_model.specs.records.EntryFormat.{entry_format}
use Rattle.mb_model.specs.records.HeaderFormat.{slot_format, entry_bytes_format, unsigned_format, header_word, header_format, log_format}
use Rattle.mb_model.specs.memories.Sectors.{header_sector, log_sector, BeginsAs}
use Rattle.mb_model.specs.memories.Flash.{sector, HoldsHeader, HoldsCode, HoldsEntry, HoldsLog, AreBytesOf, HoldsPublic}
use Rattle.mb_model_lemmas.specs.FormLaws.{HoldsOnePublic}
use Rattle.mb_model.proofs.EntryFormatLaws.{entry_exact}
use Rattle.mb_model.proofs.HeaderFormatLaws.{header_exact, log_exact}

-- ---- what sectors begin with

pub IsBytes-sector : (flash : List ℕ) (n : ℕ) → IsBytes flash → IsBytes (sector flash n)
unfolding sector
IsBytes-sector flash n are = IsBytes-take 4096 (drop (4096 * n) flash) (IsBytes-drop (4096 * n) flash are)

pub sector_short : (flash : List ℕ) (n : ℕ) → length (sector flash n) ≤ 4096
unfolding sector
sector_short flash n = omega (arith, length-take 4096 (drop (4096 * n) flash))

pub front_bytes : (front rest : List ℕ) → IsBytes (front ++ rest) → IsBytes front
front_bytes front rest are = IsBytes-spelled (front ++ rest) front rest are refl

pub back_bytes : (front rest : List ℕ) → IsBytes (front ++ rest) → IsBytes rest
back_bytes front rest are = subst IsBytes (drop-append_seam front rest) (IsBytes-drop (length front) (front ++ rest) are)

-- what bytes begin with is bytes
pub begun_bytes : {A : Type 0} (format : Format A) (bytes : List ℕ) (a : A) → IsBytes bytes → BeginsAs format bytes a → IsBytes (format.spelling a)
begun_bytes format bytes a are begins = IsBytes-spelled (drop 0 bytes) (format.spelling a) (drop begins.after bytes) (IsBytes-drop 0 bytes are) begins.spelled.here

pub one_begun : {A : Type 0} (format : Format A) → IsExact format → (bytes : List ℕ) (a b : A) → IsBytes bytes → BeginsAs format bytes a → BeginsAs format bytes b → a ≡ b
one_begun format exact bytes a b are one other =
    ((IsClear-from_exact exact).one_value bytes 0 a b one.after other.after (record { are_bytes = are; within = omega arith }) one.spelled other.spelled).0

pub one_header_begun : (bytes : List ℕ) (a b : Header) → IsBytes bytes → BeginsAs header_format bytes a → BeginsAs header_format bytes b → a ≡ b
one_header_begun bytes a b are one other = one_begun header_format header_exact bytes a b are one other

pub one_header : (flash : List ℕ) (area : ℕ) (a b : Header) → IsBytes flash → HoldsHeader flash area a → HoldsHeader flash area b → a ≡ b
one_header flash area a b are one other = one_begun header_format header_exact (sector flash (header_sector area)) a b (IsBytes-sector flash (header_sector area) are) one other

-- ---- entries

pub text_bytes : (text : List ℕ) → IsBytes (entry_bytes_format.spelling text) → IsBytes text
unfolding entry_bytes_format number_bytes
text_bytes text are = back_bytes (to_be_bytes w16 (length text)) text are

log_text : (text signature : List ℕ) → IsBytes (log_format.spelling (text, signature)) → IsBytes text
unfolding log_format
log_text text signature are = text_bytes text (front_bytes (entry_bytes_format.spelling text) signature are)

one_spelled : (text : List ℕ) (a b : Entry) → IsBytes text → Spells entry_format text a → Spells entry_format text b → a ≡ b
one_spelled text a b are one other = (IsClearWhole-from_exact entry_exact).one_value text a b are one other

abbrev signed_of : Entry → List ℕ → SignedEntry
signed_of entry signature = record { entry = entry; signature = signature }

pub one_entry : (bytes : List ℕ) (a b : SignedEntry) → IsBytes bytes → HoldsEntry bytes a → HoldsEntry bytes b → a ≡ b
one_entry bytes a b are one other =
    let same : ◌≡◌ {A = List ℕ × List ℕ} (one.text, a.signature) (other.text, b.signature) = one_begun log_format log_exact bytes _ _ are one.begins other.begins in
    let text : one.text ≡ other.text = ap (λ (p : List ℕ × List ℕ). p.0) same in
    let signature : a.signature ≡ b.signature = ap (λ (p : List ℕ × List ℕ). p.1) same in
    let bytes_are : IsBytes other.text = log_text other.text b.signature (begun_bytes log_format bytes _ are other.begins) in
    let entry : a.entry ≡ b.entry = one_spelled other.text a.entry b.entry bytes_are (subst (λ (t : List ℕ). Spells entry_format t a.entry) text one.spelled) other.spelled in
    ap (λ (e : Entry). signed_of e a.signature) entry ∙ ap (λ (s : List ℕ). signed_of b.entry s) signature

-- ---- the log, from a position on

pub record HoldsFrom (flash : List ℕ) (n : ℕ) (log : List SignedEntry) : Type 0 where
  pub each : (before : List SignedEntry) (signed : SignedEntry) (rest : List SignedEntry) → log ≡ before ++ signed ∷ rest → HoldsEntry (sector flash (log_sector (n + length before))) signed

pub holds_rest : (flash : List ℕ) (n : ℕ) (first : SignedEntry) (log : List SignedEntry) → HoldsFrom flash n (first ∷ log) → HoldsFrom flash (n + 1) log
holds_rest flash n first log holds = record {
  each = λ before signed rest split. (
      let place : n + length (first ∷ before) ≡ n + 1 + length before = omega arith in
      subst (λ k. HoldsEntry (sector flash (log_sector k)) signed) place (holds.each (first ∷ before) signed rest (ap (λ (t : List SignedEntry). first ∷ t) split)));
}

one_from : (flash : List ℕ) (n : ℕ) (one other : List SignedEntry) → IsBytes flash → length one ≡ length other → HoldsFrom flash n one → HoldsFrom flash n other → one ≡ other
one_from flash n [] [] are size a b = refl
one_from flash n [] (y ∷ ys) are size a b = absurd (omega (arith, size))
one_from flash n (x ∷ xs) [] are size a b = absurd (omega (arith, size))
one_from flash n (x ∷ xs) (y ∷ ys) are size a b =
    let head : x ≡ y = one_entry (sector flash (log_sector (n + 0))) x y (IsBytes-sector flash (log_sector (n + 0)) are) (a.each [] x xs refl) (b.each [] y ys refl) in
    let tail : xs ≡ ys = one_from flash (n + 1) xs ys are (omega (arith, size)) (holds_rest flash n x xs a) (holds_rest flash n y ys b) in
    ap (λ (z : SignedEntry). z ∷ xs) head ∙ ap (λ (zs : List SignedEntry). y ∷ zs) tail

pub from_start : (flash : List ℕ) (log : List SignedEntry) → HoldsLog flash log → HoldsFrom flash 0 log
from_start flash log holds = record {
  each = λ before signed rest split. (
      let place : length before ≡ 0 + length before = omega arith in
      subst (λ k. HoldsEntry (sector flash (log_sector k)) signed) place (holds.each before signed rest split));
}

pub one_log : (flash : List ℕ) (one other : List SignedEntry) → IsBytes flash → length one ≡ length other → HoldsLog flash one → HoldsLog flash other → one ≡ other
one_log flash one other are size a b = one_from flash 0 one other are size (from_start flash one a) (from_start flash other b)

-- ---- codes

pub one_code : (flash : List ℕ) (layer : ℕ) (slot : Slot) (a b : Option (List ℕ)) → HoldsCode flash layer slot a → HoldsCode flash layer slot b → a ≡ b
one_code flash layer slot None None one other = refl
one_code flash layer slot None (Some code) one other = absurd (other.0 one)
one_code flash layer slot (Some code) None one other = absurd (one.0 other)
one_code flash layer slot (Some code) (Some code') one other = ap Some (one.1 ∙ sym other.1)

-- ---- the entries that are not signed

abbrev pub AreAllBytes : Option (List ℕ) → Option (List ℕ) → Type 0
AreAllBytes None None = Unit {0}
AreAllBytes None (Some second) = Unit {0}
AreAllBytes (Some first) None = IsBytes first
AreAllBytes (Some first) (Some second) = IsBytes first × IsBytes second

pub one_unsigned : (first second : Option (List ℕ)) (us vs : List Entry) → AreAllBytes first second → AreBytesOf first second us → AreBytesOf first second vs → us ≡ vs
one_unsigned None None [] [] are one other = refl
one_unsigned None None [] (v ∷ vs) are one other = absurd other
one_unsigned None None (u ∷ us) vs are one other = absurd one
one_unsigned None (Some second) us vs are one other = absurd one
one_unsigned (Some first) None (u ∷ []) (v ∷ []) are one other = ap (λ (e : Entry). e ∷ []) (one_spelled first u v are one other)
one_unsigned (Some first) None [] vs are one other = absurd one
one_unsigned (Some first) None (u ∷ []) [] are one other = absurd other
one_unsigned (Some first) None (u ∷ []) (v ∷ v' ∷ vs) are one other = absurd other
one_unsigned (Some first) None (u ∷ u' ∷ us) vs are one other = absurd one
one_unsigned (Some first) (Some second) (u ∷ u' ∷ []) (v ∷ v' ∷ []) are one other =
    ap (λ (e : Entry). e ∷ u' ∷ []) (one_spelled first u v are.0 one.0 other.0) ∙ ap (λ (e : Entry). v ∷ e ∷ []) (one_spelled second u' v' are.1 one.1 other.1)
one_unsigned (Some first) (Some second) [] vs are one other = absurd one
one_unsigned (Some first) (Some second) (u ∷ []) vs are one other = absurd one
one_unsigned (Some first) (Some second) (u ∷ u' ∷ u'' ∷ us) vs are one other = absurd one
one_unsigned (Some first) (Some second) (u ∷ u' ∷ []) [] are one other = absurd other
one_unsigned (Some first) (Some second) (u ∷ u' ∷ []) (v ∷ []) are one other = absurd other
one_unsigned (Some first) (Some second) (u ∷ u' ∷ []) (v ∷ v' ∷ v'' ∷ vs) are one other = absurd other

-- ---- all of it

texts_bytes : (signed : ℕ) (first second : Option (List ℕ)) → IsBytes ((unsigned_format signed).spelling (first, second)) → AreAllBytes first second
unfolding unsigned_format items
texts_bytes signed None None are = tt
texts_bytes signed None (Some second) are = tt
texts_bytes signed (Some first) None are =
    text_bytes first (front_bytes (entry_bytes_format.spelling first) [] (back_bytes (number_bytes w8 1) (entry_bytes_format.spelling first ++ []) are))
texts_bytes signed (Some first) (Some second) are =
    let rest : List ℕ = entry_bytes_format.spelling second ++ [] in
    let both = back_bytes (number_bytes w8 2) (entry_bytes_format.spelling first ++ rest) are in (
      text_bytes first (front_bytes (entry_bytes_format.spelling first) rest both),
      text_bytes second (front_bytes (entry_bytes_format.spelling second) [] (back_bytes (entry_bytes_format.spelling first) rest both)),
    )

header_texts : (header : Header) → IsBytes (header_format.spelling header) → AreAllBytes header.first header.second
unfolding header_format
header_texts header are =
    let last : List ℕ = (unsigned_format header.signed).spelling (header.first, header.second) in
    let counted : List ℕ = number_bytes w16 header.signed ++ last in
    let three : List ℕ = slot_format.spelling header.three ++ counted in
    let two : List ℕ = slot_format.spelling header.two ++ three in
    let one : List ℕ = slot_format.spelling header.one ++ two in
    texts_bytes header.signed header.first header.second
    (back_bytes (number_bytes w16 header.signed) last (back_bytes (slot_format.spelling header.three) counted (back_bytes (slot_format.spelling header.two) three
    (back_bytes (slot_format.spelling header.one) two (back_bytes header_word one are)))))

abbrev codes_of : Option (List ℕ) → Option (List ℕ) → Option (List ℕ) → Codes
codes_of one two three = record { one = one; two = two; three = three }

pub one_list : HoldsOnePublic HoldsPublic
one_list flash root cs ds ss ts us vs are a b =
    let same : a.header ≡ b.header = one_header flash root.area a.header b.header are a.begins b.begins in
    let texts : AreAllBytes b.header.first b.header.second = header_texts b.header (begun_bytes header_format (sector flash (header_sector root.area)) b.header (IsBytes-sector flash (header_sector root.area) are) b.begins) in
    let one : cs.one ≡ ds.one = one_code flash 1 b.header.one cs.one ds.one (subst (λ (h : Header). HoldsCode flash 1 h.one cs.one) same a.one) b.one in
    let two : cs.two ≡ ds.two = one_code flash 2 b.header.two cs.two ds.two (subst (λ (h : Header). HoldsCode flash 2 h.two cs.two) same a.two) b.two in
    let three : cs.three ≡ ds.three = one_code flash 3 b.header.three cs.three ds.three (subst (λ (h : Header). HoldsCode flash 3 h.three cs.three) same a.three) b.three in (
      ap (λ (x : Option (List ℕ)). codes_of x cs.two cs.three) one ∙ ap (λ (x : Option (List ℕ)). codes_of ds.one x cs.three) two ∙ ap (codes_of ds.one ds.two) three,
      one_log flash ss ts are (a.count ∙ ap (λ (h : Header). h.signed) same ∙ sym b.count) a.log b.log,
      one_unsigned b.header.first b.header.second us vs texts (subst (λ (h : Header). AreBytesOf h.first h.second us) same a.unsigned_are) b.unsigned_are,
    )

-- ---- a sector of the log that holds no entry

-- a list is split at each of its places
pub record IsSplitAt {A : Type 0} (xs : List A) (i : ℕ) : Type 0 where
  pub before : List A
  pub here : A
  pub rest : List A
  pub whole : xs ≡ before ++ here ∷ rest
  pub place : length before ≡ i

pub split_at : {A : Type 0} (xs : List A) (i : ℕ) → i < length xs → IsSplitAt xs i
split_at [] i less = absurd (omega (arith, less))
split_at (x ∷ xs) zero less = record { before = []; here = x; rest = xs; whole = refl; place = refl }
split_at {A} (x ∷ xs) (suc i) less =
    let found = split_at xs i (omega (arith, less)) in
    record { before = x ∷ found.before; here = found.here; rest = found.rest; whole = ap (λ (t : List A). x ∷ t) found.whole; place = omega (arith, found.place) }

no_log : (flash : List ℕ) (i : ℕ) → ((signed : SignedEntry) → HoldsEntry (sector flash (log_sector i)) signed → ⊥) → (log : List SignedEntry) → i < length log → HoldsLog flash log → ⊥
no_log flash i none log less holds =
    let found = split_at log i less in
    none found.here (subst (λ k. HoldsEntry (sector flash (log_sector k)) found.here) found.place (holds.each found.before found.here found.rest found.whole))

-- Where the header that is read counts a sector that holds no entry, the flash holds nothing for the root.
pub no_list : (flash : List ℕ) (root : Root) (header : Header) (i : ℕ) → ((any : Header) → HoldsHeader flash root.area any → any ≡ header) → i < header.signed
    → ((signed : SignedEntry) → HoldsEntry (sector flash (log_sector i)) signed → ⊥) → (codes : Codes) (signed : List SignedEntry) (unsigned : List Entry) → HoldsPublic flash root codes signed unsigned → ⊥
no_list flash root header i only less none codes signed unsigned holds =
    no_log flash i none signed (omega (arith, less, holds.count, ap (λ (h : Header). h.signed) (only holds.header holds.begins))) holds.log
