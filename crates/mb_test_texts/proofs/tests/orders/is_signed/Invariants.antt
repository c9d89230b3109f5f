use Rattle.mb_test_texts.proofs.tests.orders.is_signed.Given as goal

abbrev pub ghosts-signed_counted : goal.ghosts-signed_counted
ghosts-signed_counted a = record { name = a.blank.name; parts = a.blank.parts }
