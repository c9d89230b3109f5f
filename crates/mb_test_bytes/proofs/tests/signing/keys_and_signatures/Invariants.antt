use Rattle.mb_test_bytes.proofs.tests.signing.keys_and_signatures.Given as goal

abbrev pub ghosts-expect_all : goal.ghosts-expect_all
ghosts-expect_all g a = record { name = a.blank.name; parts = a.blank.parts }
