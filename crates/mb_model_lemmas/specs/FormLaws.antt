-- What a form of the flash has to satisfy. Does a flash of that form hold one log, which a device has room for?
use Rattle.std.specs.Prelude.{◌≡◌, ◌≤◌, ◌+◌, ℕ, List, length, All}
use Rattle.mb_format.specs.Format.{IsBytes}
use Rattle.mb_model.specs.declared.limits.TheConstants.{ENTRY_LIMIT}
use Rattle.mb_model.specs.declared.entry.Entry.{Entry}
use Rattle.mb_model.specs.declared.entry.SignedEntry.{SignedEntry}
use Rattle.mb_model.specs.declared.state.Codes.{Codes}
use Rattle.mb_model.specs.declared.stored.Root.{Root}
use Rattle.mb_model.specs.records.EntryFormat.{entry_format, signed_entry_format}
use Rattle.mb_model.specs.memories.Meaning.{FlashForm}
use Rattle.mb_model.specs.memories.WrittenFlash.{CodesFitSlots}

-- for a root, a flash of bytes holds one list of codes and one list of entries, signed and unsigned, by this form
abbrev pub HoldsOnePublic : FlashForm → Type 0
HoldsOnePublic Form =
    (flash : List ℕ) (root : Root) (codes other_codes : Codes) (signed other_signed : List SignedEntry)
    (unsigned other_unsigned : List Entry) → IsBytes flash → Form flash root codes signed unsigned
    → Form flash root other_codes other_signed other_unsigned
    → (codes ≡ other_codes) × (signed ≡ other_signed) × (unsigned ≡ other_unsigned)

-- Each code fits a slot, each entry has a spelling, and there are no more entries than a log may have.
pub record PublicPartsFit (codes : Codes) (signed : List SignedEntry) (unsigned : List Entry) : Type 0 where
  pub codes_fit : CodesFitSlots codes
  pub signed_allowed : All signed_entry_format.Allowed signed
  pub unsigned_allowed : All entry_format.Allowed unsigned
  pub together : length signed + length unsigned ≤ ENTRY_LIMIT

-- the parts that a flash holds by this form fit
abbrev pub HoldsFittingParts : FlashForm → Type 0
HoldsFittingParts Form =
    (flash : List ℕ) (root : Root) (codes : Codes) (signed : List SignedEntry) (unsigned : List Entry)
    → Form flash root codes signed unsigned → PublicPartsFit codes signed unsigned
