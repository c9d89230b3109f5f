-- What a register answers to questions. Which devices have a code, and which codes are there?
use Rattle.std.specs.Prelude.{◌≡◌, ℕ, ◌<◌, Bool, List, map, filter, count_by, sum_by, Option, None, Some}
use Rattle.std.specs.Prelude.{false, if◌then◌else◌}
use Rattle.std.specs.List.{AllByRecursion}
use Rattle.mb_format.specs.Combinators.{same_bytes}
use Rattle.mb_fleet.specs.declared.row.Row.{Row}
use Rattle.mb_fleet.specs.declared.question.CodeCount.{CodeCount}
use Rattle.mb_fleet.specs.Order.{IsAscending}
use Rattle.mb_fleet.specs.Rows.{code_at, serial_of_row}

-- whether there is a hash, and it is this one
abbrev pub is_hash : List ℕ → Option (List ℕ) → Bool
is_hash hash None = false
is_hash hash (Some other) = same_bytes hash other

-- whether the layer of the row's device has this code
abbrev pub row_has_code : ℕ → List ℕ → Row → Bool
row_has_code layer hash row = is_hash hash (code_at layer row)

-- the serials of the rows whose layer has this code, in the order of the rows
abbrev pub serials_with : ℕ → List ℕ → List Row → List (List ℕ)
serials_with layer hash rows = map serial_of_row (filter (row_has_code layer hash) rows)

abbrev pub hash_of_count : CodeCount → List ℕ
hash_of_count count = count.hash

-- the number beside a hash in a list that has it at most once, or 0
abbrev pub count_beside : List ℕ → List CodeCount → ℕ
count_beside hash counts = sum_by (λ c. if same_bytes hash c.hash then c.count else 0) counts

-- Hashes in ascending order, each with a number that is not 0: the number beside any hash is that of the rows whose
-- layer has this code.
pub record AreCounts (layer : ℕ) (rows : List Row) (counts : List CodeCount) : Type 0 where
  pub ordered : IsAscending hash_of_count counts
  pub some : AllByRecursion (λ c. 0 < c.count) counts
  pub counted : (hash : List ℕ) → count_beside hash counts ≡ count_by (row_has_code layer hash) rows
