use Rattle.mb_fleet_histories.proofs.RegisterLemmas as lemmas
use Rattle.mb_fleet_histories.proofs.registers_catch_forks.Goals as goal

pub returns : goal.returns
returns c = record { chains = lemmas.good_chains_meet; forks = lemmas.forks_are_caught; hidden = lemmas.two_rows_hide_a_fork; hashes = lemmas.hashes_tell_of_entries; logs = lemmas.parted_logs_are_caught }
