-- How a register is spelled. Which file holds which rows?
use Rattle.std.specs.Prelude.{ℕ, Bool, true, List, [], ◌∷◌, length, Option, None, Some}
use Rattle.std.specs.Int.{w16, w32}
use Rattle.std.specs.Ordering.{is_lt, nat_cmp}
use Rattle.std.specs.Cmp.Lexicographic.{slice_cmp}
use Rattle.mb_format.specs.Format.{Format}
use Rattle.mb_format.specs.Combinators.{raw, raw_that, number, between, mark, optional, pair, as_record, led}
use Rattle.mb_format.specs.Combinators.{then_value, counted, items}
use Rattle.mb_model.specs.declared.limits.TheConstants.{ENTRY_LIMIT}
use Rattle.mb_fleet.specs.declared.limits.TheConstants.{DEVICE_LIMIT}
use Rattle.mb_fleet.specs.declared.row.CodeHashes.{CodeHashes}
use Rattle.mb_fleet.specs.declared.row.Row.{Row}

-- a serial may follow the one before it, or be the first
abbrev pub may_follow : Option (List ℕ) → List ℕ → Bool
may_follow None serial = true
may_follow (Some last) serial = is_lt (slice_cmp nat_cmp last serial)

-- the hash of each layer's code after a flag, layer 1 first
unfoldable pub code_hashes_format : Format CodeHashes
code_hashes_format = as_record (pair (optional (raw 32)) (pair (optional (raw 32)) (optional (raw 32))))
    (λ (one, (two, three)). record { one = one; two = two; three = three })
    (λ code. (code.one, (code.two, code.three)))

-- the hashes of the entries, after their number
unfoldable pub hashes_format : Format (List (List ℕ))
hashes_format = counted (between w16 1 ENTRY_LIMIT) (raw 32)

-- a row after one with this serial, or the first
unfoldable pub row_format : Option (List ℕ) → Format Row
row_format last = as_record
    (pair (raw_that (may_follow last) 16) (pair (number w32) (pair code_hashes_format hashes_format)))
    (λ (serial, (number, (code, hashes))).
    record { serial = serial; number = number; code = code; hashes = hashes })
    (λ row. (row.serial, (row.number, (row.code, row.hashes))))

abbrev pub last_serial : Option (List ℕ) → Row → Option (List ℕ)
last_serial last row = Some row.serial

-- 0 to 512 rows in ascending serials, after their number
unfoldable pub rows_format : Format (List Row)
rows_format = led (between w16 0 DEVICE_LIMIT) length (λ n. items row_format last_serial n None)

-- The first four bytes of a register: MBF1. An empty file is no register: else a lost one would pass for one of no
-- devices, and the next history of each device would be taken as its first.
abbrev pub register_word : List ℕ
register_word = 0x4D ∷ 0x42 ∷ 0x46 ∷ 0x31 ∷ []

-- a register: its word, and its rows
unfoldable pub register_format : Format (List Row)
register_format = then_value (mark register_word) rows_format
