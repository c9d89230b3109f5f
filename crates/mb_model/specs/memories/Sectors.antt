-- How a flash in segments is divided. Which of its 256 sectors, of 4,096 bytes each, holds what?
use Rattle.std.specs.Prelude.{ℕ, ◌+◌, ◌-◌, ◌*◌, List}
use Rattle.mb_format.specs.Format.{Format, SpelledAt}

-- the sector of a header area; there are two, 0 and 1
abbrev pub header_sector : ℕ → ℕ
header_sector area = area

-- the first of the eight sectors of a code slot; each of layers 1 to 3 has two slots, 1 and 2
abbrev pub code_sector : ℕ → ℕ → ℕ
code_sector layer slot = 2 + 16 * (layer - 1) + 8 * (slot - 1)

-- the sector of the log's entry at a position, 0 to 127
abbrev pub log_sector : ℕ → ℕ
log_sector position = 64 + position

-- Bytes begin with the spelling of a value: an allowed value is spelled at their beginning, and arbitrary bytes follow.
pub record BeginsAs {A : Type 0} (format : Format A) (bytes : List ℕ) (value : A) : Type 0 where
  pub after : ℕ
  pub spelled : SpelledAt format.spelling format.Allowed bytes 0 value after
