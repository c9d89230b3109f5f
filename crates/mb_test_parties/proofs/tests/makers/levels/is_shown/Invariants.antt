use Rattle.mb_test_parties.proofs.tests.makers.levels.is_shown.Given as goal

abbrev pub ghosts-key_counted : goal.ghosts-key_counted
ghosts-key_counted a = record { name = a.blank.name; parts = a.blank.parts }
