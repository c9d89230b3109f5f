use Rattle.mb_format.proofs.Exact.{IsClear-from_exact}
use Rattle.mb_format.proofs.Fields.{number_exact, wide8, wide16, wide32, wide64}
use Rattle.mb_format.proofs.numbers_are_clear.Goals as goal

pub returns-clause-of_one_byte : goal.returns-clause-of_one_byte
returns-clause-of_one_byte c = IsClear-from_exact (number_exact wide8)

pub returns-clause-of_two_bytes : goal.returns-clause-of_two_bytes
returns-clause-of_two_bytes c = IsClear-from_exact (number_exact wide16)

pub returns-clause-of_four_bytes : goal.returns-clause-of_four_bytes
returns-clause-of_four_bytes c = IsClear-from_exact (number_exact wide32)

pub returns-clause-of_eight_bytes : goal.returns-clause-of_eight_bytes
returns-clause-of_eight_bytes c = IsClear-from_exact (number_exact wide64)
