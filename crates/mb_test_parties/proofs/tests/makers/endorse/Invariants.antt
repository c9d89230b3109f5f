use Rattle.mb_test_parties.proofs.tests.makers.endorse.Given as goal

abbrev pub ghosts-endorse_counted : goal.ghosts-endorse_counted
ghosts-endorse_counted a = record { name = a.blank.name; parts = a.blank.parts }
