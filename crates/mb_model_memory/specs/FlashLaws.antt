-- Laws of writes to a flash in segments. Does what it held stay, whole or torn as the write may be, and does what an
-- order and its settling write hold?
use Rattle.std.specs.Prelude.{◌≡◌, ℕ, ◌+◌, ◌-◌, ◌<◌, ◌≤◌, List, [], ◌∷◌, ◌++◌, length, All, IfSome, Option, None}
use Rattle.mb_format.specs.Format.{Spells}
use Rattle.mb_model.specs.declared.limits.TheConstants.{FLASH_LENGTH, CODE_LIMIT, ENTRY_LIMIT}
use Rattle.mb_model.specs.declared.entry.Entry.{Entry}
use Rattle.mb_model.specs.declared.entry.SignedEntry.{SignedEntry}
use Rattle.mb_model.specs.declared.order.Act.{Act}
use Rattle.mb_model.specs.declared.order.Order.{Order}
use Rattle.mb_model.specs.declared.state.Codes.{Codes}
use Rattle.mb_model.specs.declared.stored.Root.{Root}
use Rattle.mb_model.specs.declared.stored.Header.{Header}
use Rattle.mb_model.specs.outside.Board.{Memory}
use Rattle.mb_model.specs.records.EntryFormat.{entry_format}
use Rattle.mb_model.specs.records.HeaderFormat.{first_text, second_text, unsigned_format, header_format}
use Rattle.mb_model.specs.memories.Meaning.{RootIn}
use Rattle.mb_model.specs.machine.OrderEffects.{codes_after}
use Rattle.mb_model.specs.records.OrderFormat.{order_format}
use Rattle.mb_model.specs.memories.Sectors.{header_sector, code_sector, log_sector}
use Rattle.mb_model.specs.memories.Flash.{HoldsHeader, HoldsLog, AreBytesOf, HoldsPublic}
use Rattle.mb_model.specs.memories.StoredLog.{AreCounted}
use Rattle.mb_model_lemmas.specs.SegmentLaws.{IsOnlyHeader, SpellsLog}
use Rattle.mb_model.specs.memories.Spared.{KeepsSignedLog}
use Rattle.mb_model_memory.specs.FlashInForce.{slot_in, AgreeForArea, IsUncounted, IsFreeSlot}
use Rattle.mb_model_memory.specs.FlashInForce.{DiffersOnlyIn, IsSectorWritten}
use Rattle.mb_model_memory.specs.NextHeaders.{code_brought, HasNewCode, IsCodeWritten}
use Rattle.mb_model_memory.specs.NextHeaders.{texts_of_entries, header_after, header_settled}

-- ---- agreement

-- flashes that agree for the area that a root names hold the same codes and entries for it
abbrev pub AgreeingFlashesHoldTheSame : Type 0
AgreeingFlashesHoldTheSame =
    (flash other : List ℕ) (root : Root) (codes : Codes) (signed : List SignedEntry) (unsigned : List Entry)
    → AgreeForArea flash other root.area → HoldsPublic flash root codes signed unsigned
    → HoldsPublic other root codes signed unsigned

-- flashes that agree for the area that the root names have the same signed log
abbrev pub AgreementKeepsTheLog : Type 0
AgreementKeepsTheLog =
    (before after : Memory)
    → ((root : Root) → RootIn before.bbram root → AgreeForArea before.flash after.flash root.area)
    → KeepsSignedLog before after

-- a flash agrees with itself
abbrev pub FlashesAgreeWithThemselves : Type 0
FlashesAgreeWithThemselves = (flash : List ℕ) (area : ℕ) → AgreeForArea flash flash area

-- agreement goes on from write to write
abbrev pub AgreementGoesOn : Type 0
AgreementGoesOn =
    (flash between other : List ℕ) (area : ℕ) → AgreeForArea flash between area → AgreeForArea between other area
    → AgreeForArea flash other area

-- agreement goes both ways
abbrev pub AgreementGoesBack : Type 0
AgreementGoesBack =
    (flash other : List ℕ) (area : ℕ) → AgreeForArea flash other area → AgreeForArea other flash area

-- ---- what may be written, whole or torn

-- a write to a sector of the log that the header of the area does not count keeps agreement
abbrev pub UncountedSectorsAreFree : Type 0
UncountedSectorsAreFree =
    (before after : List ℕ) (area position : ℕ) → area ≤ 1 → position < ENTRY_LIMIT
    → IsUncounted before area position → length before ≡ FLASH_LENGTH
    → DiffersOnlyIn (log_sector position) 1 before after → AgreeForArea before after area

-- a write to the other header area keeps agreement
abbrev pub OtherHeadersAreFree : Type 0
OtherHeadersAreFree =
    (before after : List ℕ) (area : ℕ) → area ≤ 1 → length before ≡ FLASH_LENGTH
    → DiffersOnlyIn (header_sector (1 - area)) 1 before after → AgreeForArea before after area

-- a write to a code slot that the header of the area does not name keeps agreement
abbrev pub UnnamedSlotsAreFree : Type 0
UnnamedSlotsAreFree =
    (before after : List ℕ) (area layer slot : ℕ) → area ≤ 1 → 1 ≤ layer → layer ≤ 3 → 1 ≤ slot → slot ≤ 2
    → IsFreeSlot before area layer slot → length before ≡ FLASH_LENGTH
    → DiffersOnlyIn (code_sector layer slot) 8 before after → AgreeForArea before after area

-- ---- what an order writes

-- If a flash held codes and a log, all of it signed, and what counts has stayed, two things make it hold what an order
-- leaves: the header after the order, in the area that the new root names, and the code that the order brings.
abbrev pub OrdersAreHeld : Type 0
OrdersAreHeld =
    (before after : List ℕ) (old new : Root) (codes : Codes) (signed : List SignedEntry) (unsigned : List Entry)
    (layer : ℕ) (act : Act) (first second : Option (List ℕ)) (holds : HoldsPublic before old codes signed [])
    → AgreeForArea before after old.area → HasNewCode after layer (slot_in holds.header layer) act
    → HoldsHeader after new.area (header_after holds.header layer act first second)
    → AreBytesOf first second unsigned → AreCounted new.pending unsigned
    → HoldsPublic after new (codes_after codes layer act) signed unsigned

-- After both writes of an order, the code to the free slot and the header to the other area, the flash holds what the
-- order leaves for the new root, and what it held for the old one.
abbrev pub OrderWritesAreHeld : Type 0
OrderWritesAreHeld =
    (before between after : List ℕ) (old new : Root) (codes : Codes) (signed : List SignedEntry)
    (unsigned : List Entry) (layer : ℕ) (act : Act) (first second : Option (List ℕ)) (bytes : List ℕ)
    (holds : HoldsPublic before old codes signed []) → IsOnlyHeader before old.area holds.header → old.area ≤ 1
    → 1 ≤ layer → layer ≤ 3 → length before ≡ FLASH_LENGTH
    → IsCodeWritten layer (slot_in holds.header layer) (code_brought act) before between
    → IsSectorWritten (header_sector (1 - old.area)) bytes between after
    → Spells header_format bytes (header_after holds.header layer act first second) → new.area ≡ 1 - old.area
    → AreBytesOf first second unsigned → AreCounted new.pending unsigned
    → HoldsPublic after new (codes_after codes layer act) signed unsigned × HoldsPublic after old codes signed []

-- ---- headers and texts that are written have spellings

-- Up to two entries have texts, if the log has room for them.
abbrev pub EntriesHaveTexts : Type 0
EntriesHaveTexts =
    (entries : List Entry) (signed : ℕ) → length entries ≤ 2 → signed + length entries ≤ ENTRY_LIMIT
    → All entry_format.Allowed entries
    → (unsigned_format signed).Allowed (first_text (texts_of_entries entries), second_text (texts_of_entries entries))
    × AreBytesOf (first_text (texts_of_entries entries)) (second_text (texts_of_entries entries)) entries

-- an order brings code that fits a slot
abbrev pub OrdersBringShortCode : Type 0
OrdersBringShortCode =
    (order : Order) → order_format.Allowed order → IfSome (code_brought order.act) (λ code. length code ≤ CODE_LIMIT)

-- the header after an order has a spelling, if its code fits and its texts have spellings
abbrev pub OrderHeadersAreAllowed : Type 0
OrderHeadersAreAllowed =
    (old : Header) (layer : ℕ) (act : Act) (first second : Option (List ℕ)) → header_format.Allowed old
    → IfSome (code_brought act) (λ code. length code ≤ CODE_LIMIT)
    → (unsigned_format old.signed).Allowed (first, second)
    → header_format.Allowed (header_after old layer act first second)

-- the header that settling leaves has a spelling
abbrev pub SettledHeadersAreAllowed : Type 0
SettledHeadersAreAllowed =
    (old : Header) (more : ℕ) → header_format.Allowed old → old.signed + more ≤ ENTRY_LIMIT
    → header_format.Allowed (header_settled old more)

-- ---- what settling writes

-- a write to the sector after a log makes it a log with one more entry
abbrev pub LogWritesAppend : Type 0
LogWritesAppend =
    (before after : List ℕ) (log : List SignedEntry) (signed : SignedEntry) (bytes : List ℕ)
    → length log < ENTRY_LIMIT → length before ≡ FLASH_LENGTH → SpellsLog bytes signed
    → IsSectorWritten (log_sector (length log)) bytes before after → HoldsLog before log
    → HoldsLog after (log ++ signed ∷ [])

-- If the last entries that a flash holds are unsigned, and its log sectors hold them signed, a header that counts them,
-- in the area that a root without work names, makes the flash hold the whole log.
abbrev pub SettledLogsAreHeld : Type 0
SettledLogsAreHeld =
    (flash : List ℕ) (root new : Root) (codes : Codes) (signed more : List SignedEntry) (unsigned : List Entry)
    (holds : HoldsPublic flash root codes signed unsigned) → HoldsLog flash (signed ++ more)
    → HoldsHeader flash new.area (header_settled holds.header (length more)) → new.pending ≡ None
    → HoldsPublic flash new codes (signed ++ more) []

-- After the writes that settle one entry, its log sector and the header to the other area, the flash holds the whole
-- log for the new root, and what it held for the root before.
abbrev pub SettlingOneIsHeld : Type 0
SettlingOneIsHeld =
    (before between after : List ℕ) (root new : Root) (codes : Codes) (signed : List SignedEntry)
    (unsigned : List Entry) (one : SignedEntry) (log_bytes bytes : List ℕ)
    (holds : HoldsPublic before root codes signed unsigned) → IsOnlyHeader before root.area holds.header
    → root.area ≤ 1 → length before ≡ FLASH_LENGTH → length signed + 1 ≤ ENTRY_LIMIT → SpellsLog log_bytes one
    → IsSectorWritten (log_sector (length signed)) log_bytes before between
    → IsSectorWritten (header_sector (1 - root.area)) bytes between after
    → Spells header_format bytes (header_settled holds.header 1) → new.area ≡ 1 - root.area → new.pending ≡ None
    → HoldsPublic after new codes (signed ++ one ∷ []) [] × HoldsPublic after root codes signed unsigned

-- After the writes that settle two entries, their log sectors and the header to the other area, the flash holds the
-- whole log for the new root, and what it held for the root before.
abbrev pub SettlingTwoIsHeld : Type 0
SettlingTwoIsHeld =
    (before between next after : List ℕ) (root new : Root) (codes : Codes) (signed : List SignedEntry)
    (unsigned : List Entry) (one two : SignedEntry) (first_bytes second_bytes bytes : List ℕ)
    (holds : HoldsPublic before root codes signed unsigned) → IsOnlyHeader before root.area holds.header
    → root.area ≤ 1 → length before ≡ FLASH_LENGTH → length signed + 2 ≤ ENTRY_LIMIT
    → SpellsLog first_bytes one → SpellsLog second_bytes two
    → IsSectorWritten (log_sector (length signed)) first_bytes before between
    → IsSectorWritten (log_sector (length signed + 1)) second_bytes between next
    → IsSectorWritten (header_sector (1 - root.area)) bytes next after
    → Spells header_format bytes (header_settled holds.header 2) → new.area ≡ 1 - root.area → new.pending ≡ None
    → HoldsPublic after new codes (signed ++ one ∷ two ∷ []) [] × HoldsPublic after root codes signed unsigned
