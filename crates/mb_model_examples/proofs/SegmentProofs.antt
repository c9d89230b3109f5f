-- The examples of flashes in segments, computed, and the counterexamples, refuted.
use Rattle.std.proofs.Common.{◌≡◌, ◌≢◌, ◌≤◌, ℕ, List, [], ◌∷◌, ◌++◌, length, take, replicate, Option, None, Some, Result, Ok, Err, true, refl, sym, ap, subst, ◌∙◌, arith, lit<, inl, ◌<◌, ◌⊎◌, inr}
use Rattle.std.specs.Prelude.{slice_index, codes, IfSome}
use Rattle.hex.specs.Hex.{decode_pairs}
use Rattle.mb_format.specs.Format.{Format, IsBytes, Spells}
use Rattle.mb_format.specs.Combinators.{number_bytes, items}
use Rattle.mb_format.specs.Reading.{IsExact, raw_at, number_at}
use Rattle.mb_format.proofs.Whole.{IsClearWhole-from_exact}
use Rattle.mb_model.specs.declared.entry.Entry.{Entry}
use Rattle.mb_model.specs.declared.entry.SignedEntry.{SignedEntry}
use Rattle.mb_model.specs.declared.state.Codes.{Codes}
use Rattle.mb_model.specs.declared.stored.Root.{Root}
use Rattle.mb_model.specs.declared.stored.Header.{Header}
use Rattle.mb_model.specs.outside.Board.{Memory}
use Rattle.mb_model.specs.outside.Board.{erased_bytes}
use Rattle.mb_model.specs.memories.WrittenFlash.{in_sectors, slots_with, sectors_of, written_flash}
use Rattle.mb_model.specs.records.KeyFormat.{public_key_format}
use Rattle.mb_model.specs.records.LayerFormat.{trust_format, code_name_format, layer_format, layers_format}
use Rattle.mb_model.specs.records.EntryFormat.{birth_format, entry_format}
use Rattle.mb_model.specs.records.RegionFormat.{region_format}
use Rattle.mb_model.specs.records.HeaderFormat.{code_length_format, slot_format, entry_bytes_format, unsigned_format, header_format, log_format}
use Rattle.mb_model.specs.memories.Sectors.{BeginsAs}
use Rattle.mb_model.specs.memories.Flash.{sector, code_slot, HoldsHeader, HoldsEntry, HoldsLog, AreBytesOf}
use Rattle.mb_model.specs.memories.StoredLog.{how_many_unsigned}
use Rattle.mb_model.proofs.EntryFormatLaws.{entry_exact}
use Rattle.mb_model.proofs.HeaderFormatLaws.{header_exact, log_exact}
use Rattle.mb_model.specs.memories.WrittenFlash.{CodesFitSlots}
use Rattle.mb_model_lemmas.specs.SegmentLaws.{SpellsLog}
use Rattle.mb_model_lemmas.proofs.WrittenLemmas.{written_is_whole}
use Rattle.mb_model.specs.memories.Spared.{IsUnused}
use Rattle.mb_model_memory.specs.FlashInForce.{AgreeInSlots}
use Rattle.mb_model_lemmas.proofs.HeldSegments.{holds_entry}
use Rattle.mb_model_lemmas.proofs.OneFlash.{one_entry}
use Rattle.mb_model_examples.specs.RecordValues.{bytes_of, birth, birth_digits, succession}
use Rattle.mb_model_examples.specs.RecordExamples.{with_byte}
use Rattle.mb_model_examples.specs.HeaderExamples.{header_of_one, log_bytes}
use Rattle.mb_model_examples.specs.SegmentExamples.{WrittenExamples, only_header, only_code, nine_bytes, signed_by_byte, SegmentExamples}
use Rattle.mb_model_examples.specs.SegmentCounterExamples as counter
use Rattle.mb_model_examples.proofs.RecordProofs.{byte_test, are_bytes, entries}
use Rattle.mb_model_examples.proofs.HeaderProofs.{logs}
use Rattle.mb_model_examples.proofs.MemoryCounterProofs.{spells_none}

-- ---- what bytes begin with

begins : {A : Type 0} {f : Format A} → IsExact f → (bytes : List ℕ) (a : A) (after : ℕ) → byte_test bytes ≡ true → f.reads bytes 0 ≡ Ok (a, after) → BeginsAs f bytes a
begins exact bytes a after small e = record { after = after; spelled = exact.found bytes 0 a after (record { are_bytes = are_bytes bytes small; within = omega arith }) e }

begins_read : {A : Type 0} {f : Format A} → IsExact f → (bytes : List ℕ) (a : A) → byte_test bytes ≡ true → (is : BeginsAs f bytes a) → f.reads bytes 0 ≡ Ok (a, is.after)
begins_read exact bytes a small is = exact.finds bytes 0 a is.after (record { are_bytes = are_bytes bytes small; within = omega arith }) is.spelled

begins_none : {A : Type 0} {f : Format A} → IsExact f → (bytes : List ℕ) (offset : ℕ) → byte_test bytes ≡ true → f.reads bytes 0 ≡ Err offset → (a : A) → BeginsAs f bytes a → ⊥
begins_none {A} {f} exact bytes offset small e a is =
    let no : ◌≡◌ {A = Result (A × ℕ) ℕ} (Ok (a, is.after)) (Err offset) = sym (begins_read exact bytes a small is) ∙ e in
    absurd (grind (arith, no))

-- ---- headers

abbrev header_in : Result (Header × ℕ) ℕ → ℕ
header_in (Ok r) = r.0.signed
header_in (Err offset) = 0

header_stands : HoldsHeader only_header 0 (header_of_one 1 None None)
unfolding decode_pairs sector number_at raw_at items code_length_format slot_format entry_bytes_format unsigned_format header_format
header_stands = begins header_exact only_header (header_of_one 1 None None) 22 refl refl

signed_one : (header : Header) → HoldsHeader only_header 0 header → header.signed ≡ 1
unfolding decode_pairs sector number_at raw_at items code_length_format slot_format entry_bytes_format unsigned_format header_format
signed_one header holds = sym (ap header_in (begins_read header_exact only_header header refl holds))

other_word : (header : Header) → HoldsHeader (with_byte 3 0x32 only_header) 0 header → ⊥
unfolding decode_pairs sector number_at raw_at items code_length_format slot_format entry_bytes_format unsigned_format header_format
other_word header holds = begins_none header_exact (with_byte 3 0x32 only_header) 0 refl refl header holds

no_header : (header : Header) → HoldsHeader only_header 1 header → ⊥
unfolding decode_pairs sector number_at raw_at items code_length_format slot_format entry_bytes_format unsigned_format header_format
no_header header holds = begins_none header_exact [] 0 refl refl header holds

pub headers : counter.HeaderCounterExamples
headers = record {
  word = other_word;
  count = λ holds. omega (arith, signed_one (header_of_one 2 None None) holds);
  other_area = no_header;
  only = λ only. omega (arith, ap (λ (h : Header). h.signed) (only (header_of_one 1 None None) header_stands));
  small = λ is. omega (arith, is.most);
}

-- ---- code

code_stands : take 9 (code_slot (only_code nine_bytes) 1 1) ≡ nine_bytes
unfolding code_slot
code_stands = refl

more_stands : take 9 (code_slot (only_code (nine_bytes ++ 7 ∷ [])) 1 1) ≡ nine_bytes
unfolding code_slot
more_stands = refl

no_code_there : code_slot only_header 1 1 ≡ []
unfolding code_slot decode_pairs
no_code_there = refl

not_longer : nine_bytes ++ 7 ∷ [] ≡ take 9 (code_slot (only_code (nine_bytes ++ 7 ∷ [])) 1 1) → ⊥
not_longer e = omega (arith, ap length (e ∙ more_stands))

pub long_code : (codes : Codes) (code : List ℕ) → codes.two ≡ Some code → length code ≡ 32769 → CodesFitSlots codes → ⊥
long_code codes code is long fit =
    let short : length code ≤ 32768 = subst (λ (c : Option (List ℕ)). IfSome c (λ bytes. length bytes ≤ 32768)) is fit.two in
    omega (arith, short, long)

pub code : counter.CodeCounterExamples
code = record {
  missing = λ holds. omega (arith, ap length (holds.1 ∙ ap (take 9) no_code_there));
  named = λ flash e. omega (arith, e);
  unnamed = λ flash code holds. holds.0 refl;
  longer = λ holds. not_longer holds.1;
  long = long_code;
}

-- ---- sectors of the log

entry_stands : HoldsEntry log_bytes (signed_by_byte 0x61 birth)
unfolding decode_pairs
entry_stands = holds_entry log_bytes log_bytes (signed_by_byte 0x61 birth) (record { text = bytes_of birth_digits; whole = logs.spelled; entry = entries.of_birth }) refl

entry_then : HoldsEntry (log_bytes ++ 7 ∷ []) (signed_by_byte 0x61 birth)
unfolding decode_pairs
entry_then = holds_entry (log_bytes ++ 7 ∷ []) log_bytes (signed_by_byte 0x61 birth) (record { text = bytes_of birth_digits; whole = logs.spelled; entry = entries.of_birth }) refl

log_are_bytes : IsBytes log_bytes
unfolding decode_pairs
log_are_bytes = are_bytes log_bytes refl

no_succession : HoldsEntry log_bytes (signed_by_byte 0x61 succession) → ⊥
no_succession holds =
    let same : birth ≡ succession = ap (λ (s : SignedEntry). s.entry) (one_entry log_bytes (signed_by_byte 0x61 birth) (signed_by_byte 0x61 succession) log_are_bytes entry_stands holds) in
    absurd (grind (arith, same))

no_such_bytes : SpellsLog log_bytes (signed_by_byte 0x61 succession) → ⊥
unfolding decode_pairs
no_such_bytes spells = no_succession (holds_entry log_bytes log_bytes (signed_by_byte 0x61 succession) spells refl)

no_other_signature : HoldsEntry log_bytes (signed_by_byte 0x62 birth) → ⊥
no_other_signature holds =
    let same = ap (λ (s : SignedEntry). slice_index s.signature 0) (one_entry log_bytes (signed_by_byte 0x61 birth) (signed_by_byte 0x62 birth) log_are_bytes entry_stands holds) in
    omega (arith, same)

erased_none : (signed : SignedEntry) → HoldsEntry (replicate 4096 0xFF) signed → ⊥
unfolding number_at raw_at entry_bytes_format log_format
erased_none signed holds = begins_none log_exact (replicate 4096 0xFF) 0 refl refl (holds.text, signed.signature) holds.begins

abbrev text_in : Result ((List ℕ × List ℕ) × ℕ) ℕ → List ℕ
text_in (Ok r) = r.0.0
text_in (Err offset) = []

five_is_no_entry : (entry : Entry) → Spells entry_format (5 ∷ []) entry → ⊥
unfolding number_at raw_at entry_format
five_is_no_entry entry spelled = spells_none entry_exact (5 ∷ []) 0 refl refl entry spelled

five_is_text : (text signature : List ℕ) → BeginsAs log_format (0 ∷ 1 ∷ 5 ∷ replicate 2348 0x61) (text, signature) → text ≡ 5 ∷ []
unfolding number_at raw_at entry_bytes_format log_format
five_is_text text signature begins = sym (ap text_in (begins_read log_exact (0 ∷ 1 ∷ 5 ∷ replicate 2348 0x61) (text, signature) refl begins))

no_such_entry : (signed : SignedEntry) → HoldsEntry (0 ∷ 1 ∷ 5 ∷ replicate 2348 0x61) signed → ⊥
no_such_entry signed holds =
    five_is_no_entry signed.entry (subst (λ (text : List ℕ). Spells entry_format text signed.entry) (five_is_text holds.text signed.signature holds.begins) holds.spelled)

nothing_none : (signed : SignedEntry) → HoldsEntry [] signed → ⊥
unfolding number_at raw_at entry_bytes_format log_format
nothing_none signed holds = begins_none log_exact [] 0 refl refl (holds.text, signed.signature) holds.begins

no_sectors : sector only_header 64 ≡ []
unfolding sector decode_pairs
no_sectors = refl

no_log : (signed : SignedEntry) (rest : List SignedEntry) → HoldsLog only_header (signed ∷ rest) → ⊥
no_log signed rest holds = nothing_none signed (subst (λ (bytes : List ℕ). HoldsEntry bytes signed) no_sectors (holds.each [] signed rest refl))

pub log : counter.LogSectorCounterExamples
log = record {
  other_entry = no_succession;
  other_signature = no_other_signature;
  other_bytes = no_such_bytes;
  erased = erased_none;
  no_entry = no_such_entry;
  no_sector = λ signed. no_log signed [];
  empty = λ fits. omega (arith, fits.some);
}

-- ---- texts

five_texts : (unsigned : List Entry) → AreBytesOf (Some (5 ∷ [])) None unsigned → ⊥
five_texts [] are = are
five_texts (u ∷ []) are = five_is_no_entry u are
five_texts (u ∷ v ∷ us) are = are

birth_bytes : IsBytes (bytes_of birth_digits)
unfolding decode_pairs
birth_bytes = are_bytes (bytes_of birth_digits) refl

not_succession : Spells entry_format (bytes_of birth_digits) succession → ⊥
not_succession spelled =
    let same : birth ≡ succession = (IsClearWhole-from_exact entry_exact).one_value (bytes_of birth_digits) birth succession birth_bytes entries.of_birth spelled in
    absurd (grind (arith, same))

pub texts : counter.TextsCounterExamples
texts = record {
  no_entry = five_texts;
  other = not_succession;
  more = λ entry are. are;
  fewer = λ text are. are;
  second = λ text unsigned are. are;
}

-- ---- what a flash holds for a root

no_log_for : (signed : List SignedEntry) → length signed ≡ 1 → HoldsLog only_header signed → ⊥
no_log_for [] one holds = omega (arith, one)
no_log_for (s ∷ rest) one holds = no_log s rest holds

length-only_header : length only_header ≡ 22
unfolding decode_pairs
length-only_header = refl

pub holding : (root : Root) (codes : Codes) (signed : List SignedEntry) (unsigned : List Entry) → counter.HoldingCounterExamples root codes signed unsigned
holding root codes signed unsigned = record {
  no_log = λ area holds. no_log_for signed (holds.count ∙ signed_one holds.header (subst (λ n. HoldsHeader only_header n holds.header) area holds.begins)) holds.log;
  other_area = λ area holds. no_header holds.header (subst (λ n. HoldsHeader only_header n holds.header) area holds.begins);
  uncounted = λ flash entry none holds. omega (arith, holds.counted.counted, ap how_many_unsigned none);
  empty = λ fit. omega (arith, fit.log_fits.some);
  unwritten = λ fit fits same. omega (arith, written_is_whole codes signed fit fits, ap length same, length-only_header);
}

-- ---- agreement

first_of_header : slice_index (sector only_header 0) 0 ≡ 0x4D
unfolding sector decode_pairs
first_of_header = refl

nothing_first : slice_index (sector [] 0) 0 ≡ 0
unfolding sector
nothing_first = refl

slots_differ : (other : List ℕ) → code_slot other 1 1 ≢ code_slot only_header 1 1 → AgreeInSlots only_header other (header_of_one 1 None None) → ⊥
slots_differ other differ agree = differ (agree.slots 1 (omega arith) (omega arith) (λ e. omega (arith, e)))

pub agreement : (other : List ℕ) → counter.AgreementCounterExamples other
agreement other = record {
  header = λ agree. omega (arith, ap (λ (bytes : List ℕ). slice_index bytes 0) agree.header, first_of_header, nothing_first);
  slot = λ differ agree. slots_differ other differ (agree.slots (header_of_one 1 None None) header_stands);
  slots = slots_differ other;
  log = λ differ agree. differ (agree.log (header_of_one 1 None None) header_stands 0 (omega arith));
  unused = λ differ agree. differ (agree.unused 192 (inr (omega arith, omega arith)));
  counted = λ none. omega (arith, none (header_of_one 1 None None) header_stands);
  named = λ free. free (header_of_one 1 None None) header_stands refl;
  entry = λ signed holds none. none signed holds;
}

pub keeping : (before after : Memory) → counter.KeepingCounterExamples before after
keeping before after = record {
  changed = λ root header has holds some differ keeps. differ (keeps.kept root header has holds 0 some);
  log = λ other spares. other spares.log;
  unused = λ differ spares. differ (spares.unused 50 (inl (omega arith, omega arith)));
  code = λ is. beside 49 (inl (omega arith)) is;
  first = λ is. beside 64 (inr (omega arith, omega arith)) is;
  last = λ is. beside 191 (inr (omega arith, omega arith)) is;
}
  where
    beside : (n : ℕ) → (n < 50) ⊎ ((64 ≤ n) × (n < 192)) → IsUnused n → ⊥
    beside n (inl below) (inl is) = omega (arith, below, is.0)
    beside n (inl below) (inr is) = omega (arith, below, is.0)
    beside n (inr log) (inl is) = omega (arith, log.0, is.1)
    beside n (inr log) (inr is) = omega (arith, log.1, is.0)

-- ---- writes

six_begins : slice_index (sector (6 ∷ []) 0) 0 ≡ 6
unfolding sector
six_begins = refl

not_five : take 1 (sector (6 ∷ []) 0) ≡ 5 ∷ [] → ⊥
unfolding sector
not_five e = omega (arith, ap (λ (bytes : List ℕ). slice_index bytes 0) e)

no_nine : take 9 (code_slot only_header 1 1) ≡ nine_bytes → ⊥
no_nine e = omega (arith, ap length (sym e ∙ ap (take 9) no_code_there))

pub writes : counter.WriteCounterExamples
writes = record {
  outside = λ differs. omega (arith, differs.bytes 0 (inl (lit< tt)));
  shorter = λ differs. omega (arith, differs.sized);
  other = λ written. not_five written.begins;
  early = λ begins. omega (arith, ap length begins);
  brought = λ payload is stands. no_nine (subst (λ (code : List ℕ). take (length code) (code_slot only_header 1 1) ≡ code) is stands);
  unwritten = λ written. no_nine written.1;
  written = λ same. omega (arith, ap (λ (bytes : List ℕ). slice_index bytes 0) same);
}

-- ---- examples

pub examples : SegmentExamples
examples = record {
  header = header_stands;
  code = (λ e. omega (arith, e), sym code_stands);
  more_code = (λ e. omega (arith, e), sym more_stands);
  entry = entry_then;
  texts = (entries.of_birth, entries.of_succession);
}

pub written : WrittenExamples
unfolding decode_pairs number_bytes items region_format erased_bytes code_length_format slot_format entry_bytes_format unsigned_format header_format log_format public_key_format trust_format code_name_format layer_format layers_format birth_format entry_format in_sectors slots_with sectors_of written_flash
written = record {
  header = refl;
  code = refl;
  log = refl;
  one_secret = λ secret. refl;
  empty = refl;
}
