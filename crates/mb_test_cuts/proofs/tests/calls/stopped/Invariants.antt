use Rattle.mb_test_cuts.proofs.tests.calls.stopped.Given as goal

abbrev pub ghosts-stopped_counted : goal.ghosts-stopped_counted
ghosts-stopped_counted a = record { name = a.blank.name; parts = a.blank.parts }
