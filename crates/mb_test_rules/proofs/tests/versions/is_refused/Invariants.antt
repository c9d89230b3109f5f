use Rattle.mb_test_rules.proofs.tests.versions.is_refused.Given as goal

abbrev pub ghosts-chain_counted : goal.ghosts-chain_counted
ghosts-chain_counted g a = record { name = a.blank.name; parts = a.blank.parts }
