use Rattle.mb_format.proofs.Exact.{IsClear-from_exact}
use Rattle.mb_format.proofs.Fields.{raw_exact}
use Rattle.mb_format.proofs.raw_bytes_are_clear.Goals as goal

pub returns : goal.returns
returns c = λ n. IsClear-from_exact (raw_exact n)
