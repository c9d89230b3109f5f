use Rattle.mb_test_cuts.proofs.tests.images.device_of.Given as goal

abbrev pub ghosts-device_counted : goal.ghosts-device_counted
ghosts-device_counted a = record { name = a.blank.name; parts = a.blank.parts }
