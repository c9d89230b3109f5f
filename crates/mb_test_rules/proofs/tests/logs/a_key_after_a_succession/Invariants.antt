use Rattle.mb_test_rules.proofs.tests.logs.a_key_after_a_succession.Given as goal

abbrev pub ghosts-added : goal.ghosts-added
ghosts-added g a = record { name = a.blank.name; parts = a.blank.parts }
