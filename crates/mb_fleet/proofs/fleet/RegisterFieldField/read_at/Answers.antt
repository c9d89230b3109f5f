use Rattle.std.proofs.Common.{subst, List}
use Rattle.mb_bytes.proofs.Exactly.{is_read}
use Rattle.mb_fleet.specs.ExactFormats.{register_exact}
use Rattle.mb_fleet.specs.declared.row.Row.{Row}
use Rattle.mb_fleet.specs.Indexes.{AreIndexesOf}
use Rattle.mb_fleet.proofs.Registers.{spelled_fits}
use Rattle.mb_fleet.proofs.fleet.RegisterFieldField.read_at.Goals as goal

pub of_rows-requires : goal.of_rows-requires
of_rows-requires c = rw c.as_slice.ensures (spelled_fits c.in_ok-rows.rows (is_read register_exact c.in_ok-rows.ensures).spelled.allowed).ordered

pub invariant_of-result : goal.invariant_of-result
invariant_of-result c = rw c.into_vec.ensures (
  spelled_fits c.in_ok-rows.rows (is_read register_exact c.in_ok-rows.ensures).spelled.allowed,
  subst (λ (rs : List Row). AreIndexesOf rs c.in_ok-indexes.indexes) c.as_slice.ensures c.in_ok-indexes.ensures,
)
