-- What the signatures of unsigned entries come to, and the header that counts them.
use Rattle.std.proofs.Common.{◌≡◌, ◌≤◌, ℕ, zero, suc, ◌+◌, List, [], ◌∷◌, ◌++◌, length, take, Option, None, Some, Result, Ok, Err, refl, ap, sym, ◌∙◌, subst, arith}
use Rattle.std.specs.Prelude.{◌==◌, if◌then◌else◌}
use Rattle.std.specs.Global.{Vec}
use Rattle.std.specs.Vec.{vec_len, vec_capacity}
use Rattle.std.proofs.lemmas.Option.{same_Some}
use Rattle.mb_format.specs.Format.{Spells}
use Rattle.mb_format.specs.Combinators.{items, number_bytes}
use Rattle.mb_bytes.specs.Puts.{Writes}
use Rattle.mb_model.specs.declared.entry.Entry.{Entry}
use Rattle.mb_model.specs.declared.entry.SignedEntry.{SignedEntry}
use Rattle.mb_model.specs.declared.key.KeySeed.{KeySeed}
use Rattle.mb_model.specs.declared.stored.Header.{Header}
use Rattle.mb_model.specs.declared.stored.Outgoing.{Outgoing}
use Rattle.mb_model.specs.declared.stored.Root.{Root}
use Rattle.mb_model.specs.declared.stored.Signer.{Signer}
use Rattle.mb_model.specs.records.EntryFormat.{entry_format}
use Rattle.mb_model.specs.records.HeaderFormat.{entry_bytes_format, unsigned_limit, unsigned_format, header_format}
use Rattle.mb_model.specs.records.HeaderFormat.{log_format}
use Rattle.mb_model.specs.memories.Sectors.{BeginsAs}
use Rattle.mb_model.specs.memories.Flash.{AreBytesOf}
use Rattle.mb_model.specs.signatures.Signing.{signature_of}
use Rattle.mb_model.specs.machine.SignedTexts.{entry_text}
use Rattle.mb_model.specs.machine.OrderEffects.{entry_signed_by}
use Rattle.mb_model.specs.memories.StoredLog.{signer_by, signer_of, entries_signed_for}
use Rattle.mb_model.proofs.FormatBounds.{header_short, log_short}
use Rattle.mb_model_lemmas.proofs.HeldSegments.{small_header, room_for_unsigned, header_texts}
use Rattle.mb_model_lemmas.proofs.SignatureLemmas.{length-signature_of}
use Rattle.mb_model_memory.specs.NextHeaders.{header_settled}
use Rattle.mb_model_memory.proofs.FlashHeaders.{header_settled_allowed}
use Rattle.mb_boot.specs.Completions.{count_of, unsigned_count, text_at_place, IsSignedSector, SignsText, SignsTextAt}

-- ---- headers

count_few : (signed : ℕ) (first second : Option (List ℕ)) → (unsigned_format signed).Allowed (first, second) → count_of first + count_of second ≤ unsigned_limit signed
unfolding unsigned_format
count_few signed None None is = omega arith
count_few signed None (Some second) is = absurd is
count_few signed (Some first) None is = is.0.1
count_few signed (Some first) (Some second) is = is.0.1

-- the log has room for the texts of a header
pub texts_have_room : (header : Header) → header_format.Allowed header → header.signed + unsigned_count header ≤ 128
texts_have_room header is =
    omega (arith, count_few header.signed header.first header.second (header_texts header is), room_for_unsigned header.signed (small_header header is).most)

-- the texts of a header are as many as the entries that they spell
pub texts_counted : (first second : Option (List ℕ)) (unsigned : List Entry) → AreBytesOf first second unsigned → length unsigned ≡ count_of first + count_of second
texts_counted None None [] are = refl
texts_counted None None (u ∷ us) are = absurd are
texts_counted None (Some second) us are = absurd are
texts_counted (Some first) None [] are = absurd are
texts_counted (Some first) None (u ∷ []) are = refl
texts_counted (Some first) None (u ∷ v ∷ us) are = absurd are
texts_counted (Some first) (Some second) [] are = absurd are
texts_counted (Some first) (Some second) (u ∷ []) are = absurd are
texts_counted (Some first) (Some second) (u ∷ v ∷ []) are = refl
texts_counted (Some first) (Some second) (u ∷ v ∷ w ∷ us) are = absurd are

fits_by : (signed place : ℕ) (first second : Option (List ℕ)) (text : List ℕ) → place ≤ 1 → (unsigned_format signed).Allowed (first, second)
    → (if place == 0 then first else second) ≡ Some text → (1 ≤ length text) × (length text ≤ 400)
unfolding unsigned_format items entry_bytes_format
fits_by signed zero None second text low is own = absurd (cc)
fits_by signed zero (Some first) None text low is own = subst (λ (t : List ℕ). (1 ≤ length t) × (length t ≤ 400)) (same_Some first text own) is.1.0.0
fits_by signed zero (Some first) (Some second) text low is own = subst (λ (t : List ℕ). (1 ≤ length t) × (length t ≤ 400)) (same_Some first text own) is.1.0.0
fits_by signed (suc zero) first None text low is own = absurd (cc)
fits_by signed (suc zero) None (Some second) text low is own = absurd is
fits_by signed (suc zero) (Some first) (Some second) text low is own = subst (λ (t : List ℕ). (1 ≤ length t) × (length t ≤ 400)) (same_Some second text own) is.1.1.0.0
fits_by signed (suc (suc n)) first second text low is own = absurd (omega (arith, low))

-- the text at a place of a header has the length of an entry
pub text_fits : (header : Header) (place : ℕ) (text : List ℕ) → place ≤ 1 → header_format.Allowed header → text_at_place header place ≡ Some text → (1 ≤ length text) × (length text ≤ 400)
text_fits header place text low allowed is = fits_by header.signed place header.first header.second text low (header_texts header allowed) is

-- what was made of the only header was made of each
pub signed_next : (root : Root) (place position : ℕ) (bytes read text log : List ℕ) (found : Header) → read ≡ bytes → ((any : Header) → BeginsAs header_format read any → any ≡ found)
    → position ≡ found.signed + place → text_at_place found place ≡ Some text → IsSignedSector (signer_of root place) text log → SignsTextAt root place bytes (Some position) log
signed_next root place position bytes read text log found same only at is made header here =
    let own : header ≡ found = only header (subst (λ (xs : List ℕ). BeginsAs header_format xs header) (sym same) here) in
    let signed : SignsText (signer_of root place) (text_at_place found place) (found.signed + place) (Some position) log =
    subst (λ (t : Option (List ℕ)). SignsText (signer_of root place) t (found.signed + place) (Some position) log) (sym is) (at, made)
    in
    subst (λ (h : Header). SignsText (signer_of root place) (text_at_place h place) (h.signed + place) (Some position) log) (sym own) signed

pub nothing_next : (root : Root) (place : ℕ) (bytes read log : List ℕ) (found : Header) → read ≡ bytes → ((any : Header) → BeginsAs header_format read any → any ≡ found)
    → text_at_place found place ≡ None → SignsTextAt root place bytes None log
nothing_next root place bytes read log found same only is header here =
    let own : header ≡ found = only header (subst (λ (xs : List ℕ). BeginsAs header_format xs header) (sym same) here) in
    let signed : SignsText (signer_of root place) (text_at_place found place) (found.signed + place) None log =
    subst (λ (t : Option (List ℕ)). SignsText (signer_of root place) t (found.signed + place) None log) (sym is) tt
    in
    subst (λ (h : Header). SignsText (signer_of root place) (text_at_place h place) (h.signed + place) None log) (sym own) signed

-- ---- buffers

-- a cleared buffer with the room of a sector holds just what was written to it
record IsWritten (bytes : List ℕ) (buffer : Vec ℕ) : Type 0 where
  pub items : buffer.items ≡ bytes
  pub room : 4096 ≤ vec_capacity buffer

written_out : {E : Type 0} (bytes : List ℕ) (cleared new : Vec ℕ) (result : Result (Unit {0}) E) → length bytes ≤ 4096 → cleared.items ≡ [] → vec_len cleared ≡ 0 → 4096 ≤ vec_capacity cleared
    → Writes bytes cleared result new → IsWritten bytes new
written_out bytes cleared new (Ok u) short empty none room w = record { items = w.items ∙ ap (λ (xs : List ℕ). xs ++ bytes) empty; room = omega (arith, room, w.capacity) }
written_out bytes cleared new (Err e) short empty none room w = absurd (omega (arith, w.no_room, none, room, short))

header_some : (header : Header) → 1 ≤ length (header_format.spelling header)
unfolding header_format
header_some header = omega arith

-- the buffer of the settled header
pub record HasSettled (bytes : List ℕ) (buffer : Vec ℕ) : Type 0 where
  pub settled : (header : Header) → BeginsAs header_format bytes header → Spells header_format buffer.items (header_settled header (unsigned_count header))
  pub some : 1 ≤ length buffer.items
  pub short : length buffer.items ≤ 4096
  pub room : 4096 ≤ vec_capacity buffer

pub settled_allowed : (bytes : List ℕ) (found : Header) → BeginsAs header_format bytes found → found.signed + unsigned_count found ≤ 128 → header_format.Allowed (header_settled found (unsigned_count found))
settled_allowed bytes found begins few = header_settled_allowed found (unsigned_count found) begins.spelled.allowed few

pub header_put : {E : Type 0} (bytes read : List ℕ) (found written : Header) (cleared new : Vec ℕ) (result : Result (Unit {0}) E) → read ≡ bytes → written ≡ header_settled found (unsigned_count found)
    → BeginsAs header_format read found → ((any : Header) → BeginsAs header_format read any → any ≡ found) → found.signed + unsigned_count found ≤ 128
    → cleared.items ≡ [] → vec_len cleared ≡ 0 → 4096 ≤ vec_capacity cleared → Writes (header_format.spelling written) cleared result new → HasSettled bytes new
header_put bytes read found written cleared new result same is begins only few empty none room writes =
    let allowed : header_format.Allowed written = subst header_format.Allowed (sym is) (settled_allowed read found begins few) in
    let out = written_out (header_format.spelling written) cleared new result (omega (arith, header_short.short written allowed)) empty none room writes in
    record {
      settled = λ header here. (
          let own : header ≡ found = only header (subst (λ (xs : List ℕ). BeginsAs header_format xs header) (sym same) here) in
          subst (λ (h : Header). Spells header_format new.items h) (is ∙ ap (λ (h : Header). header_settled h (unsigned_count h)) (sym own)) (record { allowed = allowed; whole = out.items }));
      some = omega (arith, ap length out.items, header_some written);
      short = omega (arith, ap length out.items, header_short.short written allowed);
      room = out.room;
    }

-- ---- signatures

log_allowed : (text signature : List ℕ) → 1 ≤ length text → length text ≤ 400 → length signature ≡ 2348 → log_format.Allowed (text, signature)
unfolding log_format entry_bytes_format
log_allowed text signature some short sized = (((some, short), refl), sized)

log_some : (text signature : List ℕ) → 1 ≤ length (log_format.spelling (text, signature))
unfolding log_format entry_bytes_format number_bytes
log_some text signature = omega arith

-- the text of an entry and the signature of that text are what its sector holds
log_of_text : (signer : Signer) (text signature bytes : List ℕ) → log_format.Allowed (text, signature) → signature ≡ signature_of signer.key signer.index (3 ∷ text)
    → bytes ≡ log_format.spelling (text, signature) → IsSignedSector signer text bytes
unfolding entry_signed_by entry_text
log_of_text signer text signature bytes allowed made is = record {
  spelled = λ entry spells. (
      let own : signature ≡ signature_of signer.key signer.index (3 ∷ entry_format.spelling entry) =
      made ∙ ap (λ (t : List ℕ). signature_of signer.key signer.index (3 ∷ t)) spells.whole
      in
      record {
        text = text;
        whole = subst (λ (s : List ℕ). Spells log_format bytes (text, s)) own (record { allowed = allowed; whole = is });
        entry = spells;
      });
  some = omega (arith, ap length is, log_some text signature);
  short = omega (arith, ap length is, log_short.short (text, signature) allowed);
}

-- the buffer of a sector that holds it
pub record HasLog (signer : Signer) (text : List ℕ) (buffer : Vec ℕ) : Type 0 where
  pub log : IsSignedSector signer text buffer.items
  pub room : 4096 ≤ vec_capacity buffer

pub log_put : {E : Type 0} (signer : Signer) (text signature : List ℕ) (cleared new : Vec ℕ) (result : Result (Unit {0}) E) → 1 ≤ length text → length text ≤ 400
    → signature ≡ signature_of signer.key signer.index (3 ∷ text) → cleared.items ≡ [] → vec_len cleared ≡ 0 → 4096 ≤ vec_capacity cleared
    → Writes (log_format.spelling (text, signature)) cleared result new → HasLog signer text new
log_put signer text signature cleared new result some short made empty none room writes =
    let allowed : log_format.Allowed (text, signature) = log_allowed text signature some short (ap length made ∙ length-signature_of signer.key signer.index (3 ∷ text)) in
    let out = written_out (log_format.spelling (text, signature)) cleared new result (omega (arith, log_short.short (text, signature) allowed)) empty none room writes in
    record { log = log_of_text signer text signature new.items allowed made out.items; room = out.room }

-- ---- entries by their places

-- the entry at a place with its signature
abbrev pub made_at : KeySeed → ℕ → Option Outgoing → ℕ → Entry → SignedEntry
made_at device uses outgoing place entry = entry_signed_by (signer_by device uses outgoing place).key (signer_by device uses outgoing place).index entry

-- The text at a place is that of an entry, which comes next among these that are signed.
pub record IsNext (device : KeySeed) (uses : ℕ) (outgoing : Option Outgoing) (place : ℕ) (text : List ℕ) (more : List SignedEntry) : Type 0 where
  pub entry : Entry
  pub spelled : Spells entry_format text entry
  pub size : length (take place more) ≡ place
  pub next : take (place + 1) more ≡ take place more ++ made_at device uses outgoing place entry ∷ []

next_by : (device : KeySeed) (uses : ℕ) (outgoing : Option Outgoing) (place : ℕ) (first second : Option (List ℕ)) (unsigned : List Entry) (text : List ℕ) → place ≤ 1
    → AreBytesOf first second unsigned → (if place == 0 then first else second) ≡ Some text → IsNext device uses outgoing place text (entries_signed_for device uses outgoing unsigned)
next_by device uses outgoing zero None None [] text low are is = absurd (cc)
next_by device uses outgoing zero None None (u ∷ us) text low are is = absurd are
next_by device uses outgoing zero None (Some second) us text low are is = absurd are
next_by device uses outgoing zero (Some first) None [] text low are is = absurd are
next_by device uses outgoing zero (Some first) None (u ∷ []) text low are is =
    record { entry = u; spelled = subst (λ (t : List ℕ). Spells entry_format t u) (same_Some first text is) are; size = refl; next = refl }
next_by device uses outgoing zero (Some first) None (u ∷ v ∷ us) text low are is = absurd are
next_by device uses outgoing zero (Some first) (Some second) [] text low are is = absurd are
next_by device uses outgoing zero (Some first) (Some second) (u ∷ []) text low are is = absurd are
next_by device uses outgoing zero (Some first) (Some second) (u ∷ v ∷ []) text low are is =
    record { entry = u; spelled = subst (λ (t : List ℕ). Spells entry_format t u) (same_Some first text is) are.0; size = refl; next = refl }
next_by device uses outgoing zero (Some first) (Some second) (u ∷ v ∷ w ∷ us) text low are is = absurd are
next_by device uses outgoing (suc zero) first None us text low are is = absurd (cc)
next_by device uses outgoing (suc zero) None (Some second) us text low are is = absurd are
next_by device uses outgoing (suc zero) (Some first) (Some second) [] text low are is = absurd are
next_by device uses outgoing (suc zero) (Some first) (Some second) (u ∷ []) text low are is = absurd are
next_by device uses outgoing (suc zero) (Some first) (Some second) (u ∷ v ∷ []) text low are is =
    record { entry = v; spelled = subst (λ (t : List ℕ). Spells entry_format t v) (same_Some second text is) are.1; size = refl; next = refl }
next_by device uses outgoing (suc zero) (Some first) (Some second) (u ∷ v ∷ w ∷ us) text low are is = absurd are
next_by device uses outgoing (suc (suc n)) first second us text low are is = absurd (omega (arith, low))

pub next_is : (device : KeySeed) (uses : ℕ) (outgoing : Option Outgoing) (place : ℕ) (header : Header) (unsigned : List Entry) (text : List ℕ) → place ≤ 1
    → AreBytesOf header.first header.second unsigned → text_at_place header place ≡ Some text → IsNext device uses outgoing place text (entries_signed_for device uses outgoing unsigned)
next_is device uses outgoing place header unsigned text low are is = next_by device uses outgoing place header.first header.second unsigned text low are is

ends_by : (device : KeySeed) (uses : ℕ) (outgoing : Option Outgoing) (place : ℕ) (first second : Option (List ℕ)) (unsigned : List Entry) → place ≤ 1
    → AreBytesOf first second unsigned → (if place == 0 then first else second) ≡ None → take (place + 1) (entries_signed_for device uses outgoing unsigned) ≡ take place (entries_signed_for device uses outgoing unsigned)
ends_by device uses outgoing zero (Some first) second us low are is = absurd (cc)
ends_by device uses outgoing zero None (Some second) us low are is = absurd are
ends_by device uses outgoing zero None None (u ∷ us) low are is = absurd are
ends_by device uses outgoing zero None None [] low are is = refl
ends_by device uses outgoing (suc zero) first (Some second) us low are is = absurd (cc)
ends_by device uses outgoing (suc zero) None None [] low are is = refl
ends_by device uses outgoing (suc zero) None None (u ∷ us) low are is = absurd are
ends_by device uses outgoing (suc zero) (Some first) None [] low are is = absurd are
ends_by device uses outgoing (suc zero) (Some first) None (u ∷ []) low are is = refl
ends_by device uses outgoing (suc zero) (Some first) None (u ∷ v ∷ us) low are is = absurd are
ends_by device uses outgoing (suc (suc n)) first second us low are is = absurd (omega (arith, low))

-- if a header has no text at a place, there is no more to be signed from there on
pub none_next : (device : KeySeed) (uses : ℕ) (outgoing : Option Outgoing) (place : ℕ) (header : Header) (unsigned : List Entry) → place ≤ 1
    → AreBytesOf header.first header.second unsigned → text_at_place header place ≡ None
    → take (place + 1) (entries_signed_for device uses outgoing unsigned) ≡ take place (entries_signed_for device uses outgoing unsigned)
none_next device uses outgoing place header unsigned low are is = ends_by device uses outgoing place header.first header.second unsigned low are is

-- two are all of them
pub two_are_all : (device : KeySeed) (uses : ℕ) (outgoing : Option Outgoing) (first second : Option (List ℕ)) (unsigned : List Entry) → AreBytesOf first second unsigned
    → take 2 (entries_signed_for device uses outgoing unsigned) ≡ entries_signed_for device uses outgoing unsigned
two_are_all device uses outgoing None None [] are = refl
two_are_all device uses outgoing None None (u ∷ us) are = absurd are
two_are_all device uses outgoing None (Some second) us are = absurd are
two_are_all device uses outgoing (Some first) None [] are = absurd are
two_are_all device uses outgoing (Some first) None (u ∷ []) are = refl
two_are_all device uses outgoing (Some first) None (u ∷ v ∷ us) are = absurd are
two_are_all device uses outgoing (Some first) (Some second) [] are = absurd are
two_are_all device uses outgoing (Some first) (Some second) (u ∷ []) are = absurd are
two_are_all device uses outgoing (Some first) (Some second) (u ∷ v ∷ []) are = refl
two_are_all device uses outgoing (Some first) (Some second) (u ∷ v ∷ w ∷ us) are = absurd are
