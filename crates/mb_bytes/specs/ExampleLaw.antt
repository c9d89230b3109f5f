-- An example is read exactly.
use Rattle.std.specs.Prelude.{refl}
use Rattle.mb_format.specs.Reading.{IsExact}
use Rattle.mb_format.proofs.Fields.{wide8, wide16, wide32, number_exact, raw_exact}
use Rattle.mb_format.proofs.Compositions.{pair_exact, as_record_exact, counted_exact}
use Rattle.mb_bytes.specs.Example.{values, example}

values_exact : IsExact values
unfolding values
values_exact = counted_exact (number_exact wide8) (number_exact wide16)

pub example_exact : IsExact example
unfolding example
example_exact =
    let parts = pair_exact (number_exact wide32) (pair_exact (raw_exact 4) values_exact) in
    as_record_exact _ _ parts (λ p h. refl) (λ e. refl)
