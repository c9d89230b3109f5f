-- Flashes in segments, and writes to them, for which the definitions do not hold; the checker refutes each line. Is any
-- definition true of everything?
use Rattle.std.specs.Prelude.{◌≡◌, ◌≢◌, ◌<◌, ℕ, List, [], ◌∷◌, ◌++◌, length, replicate, None, Some}
use Rattle.mb_model.specs.declared.entry.Entry.{Entry}
use Rattle.mb_model.specs.declared.entry.SignedEntry.{SignedEntry}
use Rattle.mb_model.specs.declared.order.Act.TheVariants.{Load}
use Rattle.mb_model.specs.declared.order.Payload.{Payload}
use Rattle.mb_model.specs.declared.state.Codes.{Codes}
use Rattle.mb_model.specs.declared.stored.Root.{Root}
use Rattle.mb_model.specs.declared.stored.Header.{Header}
use Rattle.mb_model.specs.outside.Board.{Memory}
use Rattle.mb_model.specs.memories.Meaning.{RootIn}
use Rattle.mb_model.specs.memories.Flash.{sector, code_slot, HoldsHeader, HoldsCode, HoldsEntry, HoldsLog, AreBytesOf}
use Rattle.mb_model.specs.memories.Flash.{HoldsPublic}
use Rattle.mb_model.specs.memories.WrittenFlash.{written_flash, CodesFitSlots, LogFitsSectors}
use Rattle.mb_model_lemmas.specs.SegmentLaws.{IsOnlyHeader, HoldsNoEntry, IsSmallHeader, SegmentsFit, SpellsLog}
use Rattle.mb_model.specs.memories.Spared.{KeepsSignedLog, SparesSectors}
use Rattle.mb_model_memory.specs.FlashInForce.{AgreeInSlots, AgreeForArea, IsUncounted}
use Rattle.mb_model.specs.memories.Spared.{IsUnused}
use Rattle.mb_model_memory.specs.FlashInForce.{IsFreeSlot, DiffersOnlyIn, BeginsWithBytes, IsSectorWritten}
use Rattle.mb_model_memory.specs.NextHeaders.{HasNewCode, IsCodeWritten}
use Rattle.mb_model_examples.specs.RecordValues.{bytes_of, birth, birth_digits, succession}
use Rattle.mb_model_examples.specs.RecordExamples.{with_byte}
use Rattle.mb_model_examples.specs.HeaderExamples.{no_code, header_of_one, log_bytes}
use Rattle.mb_model_examples.specs.SegmentExamples.{only_header, only_code, nine_bytes, slot_one, signed_by_byte}

-- ---- what a flash does not hold

pub record HeaderCounterExamples : Type 0 where
  -- the last byte of the header's word is another
  pub word : (header : Header) → HoldsHeader (with_byte 3 0x32 only_header) 0 header → ⊥
  -- the header counts two entries as signed
  pub count : HoldsHeader only_header 0 (header_of_one 2 None None) → ⊥
  -- the header stands in the other area
  pub other_area : (header : Header) → HoldsHeader only_header 1 header → ⊥
  -- a header that the area does not hold is not its only one, and a header cannot count 129 entries
  pub only : IsOnlyHeader only_header 0 (header_of_one 2 None None) → ⊥
  pub small : IsSmallHeader (header_of_one 129 None None) → ⊥

pub record CodeCounterExamples : Type 0 where
  -- the header names slot 1, where there is no code
  pub missing : HoldsCode only_header 1 (slot_one 9) (Some nine_bytes) → ⊥
  -- the header names slot 1, and the layer has no code
  pub named : (flash : List ℕ) → HoldsCode flash 1 (slot_one 9) None → ⊥
  -- the header names no slot, and the layer has code
  pub unnamed : (flash code : List ℕ) → HoldsCode flash 1 no_code (Some code) → ⊥
  -- the slot holds one byte more than the header names
  pub longer : HoldsCode (only_code (nine_bytes ++ 7 ∷ [])) 1 (slot_one 9) (Some (nine_bytes ++ 7 ∷ [])) → ⊥
  -- a code has more bytes than a slot
  pub long : (codes : Codes) (code : List ℕ) → codes.two ≡ Some code → length code ≡ 32769 → CodesFitSlots codes → ⊥

pub record LogSectorCounterExamples : Type 0 where
  -- the sector of a birth holds neither a succession nor the birth with another signature
  pub other_entry : HoldsEntry log_bytes (signed_by_byte 0x61 succession) → ⊥
  pub other_signature : HoldsEntry log_bytes (signed_by_byte 0x62 birth) → ⊥
  pub other_bytes : SpellsLog log_bytes (signed_by_byte 0x61 succession) → ⊥
  -- an erased sector, and one whose text spells no entry, hold no entry
  pub erased : (signed : SignedEntry) → HoldsEntry (replicate 4096 0xFF) signed → ⊥
  pub no_entry : (signed : SignedEntry) → HoldsEntry (0 ∷ 1 ∷ 5 ∷ replicate 2348 0x61) signed → ⊥
  -- a flash that ends before its log holds no log of one entry
  pub no_sector : (signed : SignedEntry) → HoldsLog only_header (signed ∷ []) → ⊥
  -- an empty log is none that a flash can hold
  pub empty : LogFitsSectors [] → ⊥

pub record TextsCounterExamples : Type 0 where
  -- the text spells no entry, or another
  pub no_entry : (unsigned : List Entry) → AreBytesOf (Some (5 ∷ [])) None unsigned → ⊥
  pub other : AreBytesOf (Some (bytes_of birth_digits)) None (succession ∷ []) → ⊥
  -- there are more entries than texts, or fewer, or a second text without a first
  pub more : (entry : Entry) → AreBytesOf None None (entry ∷ []) → ⊥
  pub fewer : (text : List ℕ) → AreBytesOf (Some text) None [] → ⊥
  pub second : (text : List ℕ) (unsigned : List Entry) → AreBytesOf None (Some text) unsigned → ⊥

-- a flash of nothing but a header holds nothing for a root
pub record HoldingCounterExamples (root : Root) (codes : Codes) (signed : List SignedEntry) (unsigned : List Entry)
    : Type 0 where
  -- the log of the flash is missing
  pub no_log : root.area ≡ 0 → HoldsPublic only_header root codes signed unsigned → ⊥
  -- the root names the area without a header
  pub other_area : root.area ≡ 1 → HoldsPublic only_header root codes signed unsigned → ⊥
  -- no flash holds an unsigned entry for a root without work, and none holds an empty log
  pub uncounted : (flash : List ℕ) (entry : Entry) → root.pending ≡ None
      → HoldsPublic flash root codes signed (entry ∷ unsigned) → ⊥
  pub empty : SegmentsFit codes [] unsigned → ⊥
  -- a flash of nothing but a header was not written from nothing, which gives every byte of a flash
  pub unwritten : CodesFitSlots codes → LogFitsSectors signed → written_flash codes signed ≡ only_header → ⊥

-- ---- what does not stay

pub record AgreementCounterExamples (other : List ℕ) : Type 0 where
  -- the header is another, or the slot that it names, or the sector that it counts, or one that holds nothing
  pub header : AgreeForArea only_header [] 0 → ⊥
  pub slot : code_slot other 1 1 ≢ code_slot only_header 1 1 → AgreeForArea only_header other 0 → ⊥
  pub slots : code_slot other 1 1 ≢ code_slot only_header 1 1
      → AgreeInSlots only_header other (header_of_one 1 None None) → ⊥
  pub log : sector other 64 ≢ sector only_header 64 → AgreeForArea only_header other 0 → ⊥
  pub unused : sector other 192 ≢ sector only_header 192 → AgreeForArea only_header other 0 → ⊥
  -- the header counts the first entry, and names slot 1 of layer 1
  pub counted : IsUncounted only_header 0 0 → ⊥
  pub named : IsFreeSlot only_header 0 1 1 → ⊥
  -- the first sector of the log holds an entry
  pub entry : (signed : SignedEntry) → HoldsEntry (sector other 64) signed → HoldsNoEntry other 0 → ⊥

-- a signed entry changes, or a sector that holds nothing
pub record KeepingCounterExamples (before after : Memory) : Type 0 where
  pub changed : (root : Root) (header : Header) → RootIn before.bbram root → HoldsHeader before.flash root.area header
      → 0 < header.signed → sector after.flash 64 ≢ sector before.flash 64 → KeepsSignedLog before after → ⊥
  pub log : (KeepsSignedLog before after → ⊥) → SparesSectors before after → ⊥
  pub unused : sector after.flash 50 ≢ sector before.flash 50 → SparesSectors before after → ⊥
  -- the sectors beside those that hold nothing hold code, the first entry and the last
  pub code : IsUnused 49 → ⊥
  pub first : IsUnused 64 → ⊥
  pub last : IsUnused 191 → ⊥

pub record WriteCounterExamples : Type 0 where
  -- a byte of sector 0 has changed, or is gone
  pub outside : DiffersOnlyIn 1 1 (5 ∷ []) (6 ∷ []) → ⊥
  pub shorter : DiffersOnlyIn 0 1 (5 ∷ []) [] → ⊥
  -- the sector begins with another byte, or ends too early
  pub other : IsSectorWritten 0 (5 ∷ []) (0xFF ∷ []) (6 ∷ []) → ⊥
  pub early : BeginsWithBytes (5 ∷ []) (5 ∷ 6 ∷ []) → ⊥
  -- new code is missing from slot 1, and an order without code wrote a byte
  pub brought : (payload : Payload) → payload.code ≡ nine_bytes
      → HasNewCode only_header 1 no_code (Load payload) → ⊥
  pub unwritten : IsCodeWritten 1 no_code (Some nine_bytes) only_header only_header → ⊥
  pub written : IsCodeWritten 1 no_code None (0xFF ∷ []) (6 ∷ []) → ⊥
