use Rattle.mb_test_rules.proofs.tests.statements.statements_in_a_chain.Given as goal

abbrev pub ghosts-entries_counted : goal.ghosts-entries_counted
ghosts-entries_counted g a = record { name = a.blank.name; parts = a.blank.parts }
