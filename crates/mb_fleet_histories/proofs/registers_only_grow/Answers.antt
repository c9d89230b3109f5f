use Rattle.mb_fleet_histories.proofs.RegisterLemmas as lemmas
use Rattle.mb_fleet_histories.proofs.registers_only_grow.Goals as goal

pub returns : goal.returns
returns c = record { rows = lemmas.rows_only_grow; ordered = lemmas.registers_stay_ordered; doubled = lemmas.doubled_rows_stay }
