-- Why no value was read, as an offset. Where do the bytes fail?
use Rattle.std.specs.Prelude.{ℕ, Option, Some, None}
use Rattle.mb_bytes.specs.declared.end.ReadEnd.{ReadEnd}
use Rattle.mb_bytes.specs.declared.end.ReadEnd.TheVariants.{Bad, NoMemory}

-- the offset to which an error points, or None if an allocation failed
abbrev pub end_at : ReadEnd → Option ℕ
end_at (Bad at) = Some at
end_at NoMemory = None
