-- How the header of a flash in segments is spelled, and an entry of the log in a sector of its own. Where does each
-- layer's code stand, and which entries are signed? Entries are bytes here: only their length is checked.
use Rattle.std.specs.Prelude.{◌+◌, ℕ, ◌-◌, ◌==◌, nat_le, List, [], ◌∷◌, Option, None, Some, if◌then◌else◌}
use Rattle.std.specs.Int.{w8, w16, w32}
use Rattle.mb_format.specs.Format.{Format}
use Rattle.mb_format.specs.Combinators.{between, mark, either, both, pair, as_value, as_record, then_value}
use Rattle.mb_format.specs.Combinators.{sized, counted}
use Rattle.mb_model.specs.declared.limits.TheConstants.{CODE_LIMIT, ENTRY_LIMIT, ENTRY_TEXT_LIMIT}
use Rattle.mb_model.specs.declared.stored.Slot.{Slot}
use Rattle.mb_model.specs.declared.stored.Header.{Header}
use Rattle.mb_model.specs.records.EntryFormat.{signature_format}

-- ---- slots

-- the length of a layer's code: 0 if no slot is named, else at most 32,768
unfoldable pub code_length_format : ℕ → Format ℕ
code_length_format which = either (which == 0) (between w32 0 0) (between w32 0 CODE_LIMIT)

-- the slot that holds a layer's code, 1 or 2, or 0 for none; then the length of the code
unfoldable pub slot_format : Format Slot
slot_format = as_record (both (between w8 0 2) code_length_format)
    (λ (which, length). record { which = which; length = length })
    (λ slot. (slot.which, slot.length))

-- ---- unsigned entries

-- The bytes of an entry, 1 to 400, after their number. A header whose bytes spell no entry is a header all the same;
-- whoever reads the entry asks what they spell. 400 leaves room over the 358 bytes of the longest. As values,
-- `mb_segments` would need every reader of `mb_layout`.
unfoldable pub entry_bytes_format : Format (List ℕ)
entry_bytes_format = sized (between w16 1 ENTRY_TEXT_LIMIT)

-- How many entries may be unsigned beside this many signed ones: at most two, and at most 128 of both together. Of too
-- many entries the number of unsigned ones is at fault: the number of signed ones is allowed by itself.
abbrev pub unsigned_limit : ℕ → ℕ
unsigned_limit signed = if nat_le (signed + 2) ENTRY_LIMIT then 2 else ENTRY_LIMIT - signed

-- the first of some texts, if there is one
abbrev pub first_text : List (List ℕ) → Option (List ℕ)
first_text [] = None
first_text (first ∷ rest) = Some first

-- the second of some texts, if there are two
abbrev pub second_text : List (List ℕ) → Option (List ℕ)
second_text [] = None
second_text (first ∷ rest) = first_text rest

-- A first and a second text as a list; there is no second without a first. There are never more than two, so they are
-- two options; a list could hold more than a header can.
abbrev pub texts_in : Option (List ℕ) → Option (List ℕ) → Option (List (List ℕ))
texts_in None None = Some []
texts_in None (Some second) = None
texts_in (Some first) None = Some (first ∷ [])
texts_in (Some first) (Some second) = Some (first ∷ second ∷ [])

-- the unsigned entries, none to two, after their number
unfoldable pub unsigned_format : ℕ → Format (Option (List ℕ) × Option (List ℕ))
unsigned_format signed = as_value (counted (between w8 0 (unsigned_limit signed)) entry_bytes_format)
    (λ texts. (first_text texts, second_text texts))
    (λ (first, second). texts_in first second)

-- ---- headers

-- the word that a header begins with: MBH1
abbrev pub header_word : List ℕ
header_word = 0x4D ∷ 0x42 ∷ 0x48 ∷ 0x31 ∷ []

-- A header: its word, the slot of each layer's code, the number of signed entries, and the unsigned entries.
unfoldable pub header_format : Format Header
header_format = then_value (mark header_word) (as_record
    (pair slot_format  -- one
    (pair slot_format  -- two
    (pair slot_format  -- three
    (both (between w16 1 ENTRY_LIMIT)  -- signed
    unsigned_format))))  -- first and second
    (λ (one, (two, (three, (signed, (first, second))))). record {
      one = one;
      two = two;
      three = three;
      signed = signed;
      first = first;
      second = second;
    })
    (λ header. (header.one, (header.two, (header.three, (header.signed, (header.first, header.second)))))))

-- ---- sectors of the log

-- what a sector of the log holds: the bytes of an entry after their number, and the signature of the entry
unfoldable pub log_format : Format (List ℕ × List ℕ)
log_format = pair entry_bytes_format signature_format
