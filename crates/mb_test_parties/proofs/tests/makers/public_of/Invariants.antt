use Rattle.mb_test_parties.proofs.tests.makers.public_of.Given as goal

abbrev pub ghosts-public_counted : goal.ghosts-public_counted
ghosts-public_counted a = record { name = a.blank.name; parts = a.blank.parts }
