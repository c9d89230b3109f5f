-- The laws by which `search` shows that a format is read exactly, the more special before the more general.
use Rattle.std.proofs.lemmas.Bool.{ltb-true}
use Rattle.mb_format.proofs.Fields.{wide8, wide16, wide32, wide64, raw_exact, number_exact, between_exact, table_exact, listed_exact, raw_that_exact, mark_exact, nothing_exact}
use Rattle.mb_format.proofs.Compositions.{both_exact, as_record_exact, as_value_exact, then_value_exact, flag_exact, optional_exact, times_exact, items_exact, sized_exact, sized_that_exact, counted_exact, led_exact}

pub ruleset exactly = (wide8, wide16, wide32, wide64, ltb-true, raw_exact, number_exact, between_exact, table_exact, listed_exact, raw_that_exact, mark_exact, nothing_exact, sized_exact, sized_that_exact, counted_exact, optional_exact, flag_exact, then_value_exact, led_exact, times_exact, items_exact, both_exact, as_record_exact, as_value_exact)
