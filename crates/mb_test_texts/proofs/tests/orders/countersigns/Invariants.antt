use Rattle.mb_test_texts.proofs.tests.orders.countersigns.Given as goal

abbrev pub ghosts-countersigned_counted : goal.ghosts-countersigned_counted
ghosts-countersigned_counted a = record { name = a.blank.name; parts = a.blank.parts }
