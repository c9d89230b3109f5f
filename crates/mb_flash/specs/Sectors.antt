-- How many sectors of the flash a number of bytes takes.
use Rattle.std.specs.Prelude.{ℕ, ◌+◌, ◌-◌, ◌/◌}
use Rattle.mb_model.specs.declared.limits.TheConstants.{SECTOR_LENGTH}

-- the number of sectors that n bytes take
abbrev pub sectors_for : ℕ → ℕ
sectors_for n = (n + SECTOR_LENGTH - 1) / SECTOR_LENGTH
