-- A register is read exactly.
use Rattle.std.specs.Prelude.{◌≡◌, ℕ, List, length, Option, None}
use Rattle.mb_format.specs.Combinators.{items}
use Rattle.mb_format.specs.Reading.{IsExact}
use Rattle.mb_format.proofs.Rules.{exactly}
use Rattle.mb_format.proofs.Compositions.{items_length}
use Rattle.mb_fleet.specs.declared.row.Row.{Row}
use Rattle.mb_fleet.specs.RegisterFormat.{code_hashes_format, hashes_format, row_format, last_serial, rows_format}
use Rattle.mb_fleet.specs.RegisterFormat.{register_format}

code_hashes_exact : IsExact code_hashes_format
unfolding code_hashes_format
code_hashes_exact = search exactly depth 20

hashes_exact : IsExact hashes_format
unfolding hashes_format
hashes_exact = search exactly depth 20

row_exact : (last : Option (List ℕ)) → IsExact (row_format last)
unfolding row_format
row_exact last = search (exactly, code_hashes_exact, hashes_exact) depth 20

rows_length : (n : ℕ) (rows : List Row) → (items row_format last_serial n None).Allowed rows → length rows ≡ n
rows_length n rows h = items_length row_format last_serial n None rows h

rows_exact : IsExact rows_format
unfolding rows_format
rows_exact = search (exactly, row_exact, rows_length) depth 20

pub register_exact : IsExact register_format
unfolding register_format
register_exact = search (exactly, rows_exact) depth 20
