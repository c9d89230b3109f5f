use Rattle.mb_test_rules.proofs.tests.statements.stated.Given as goal

abbrev pub ghosts-signature_counted : goal.ghosts-signature_counted
ghosts-signature_counted a = record { name = a.blank.name; parts = a.blank.parts }
