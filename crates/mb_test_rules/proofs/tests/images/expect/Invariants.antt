use Rattle.mb_test_rules.proofs.tests.images.expect.Given as goal

abbrev pub ghosts-answer_counted : goal.ghosts-answer_counted
ghosts-answer_counted g a = record { name = a.blank.name; parts = a.blank.parts }
