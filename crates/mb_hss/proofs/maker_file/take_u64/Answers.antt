use Rattle.std.proofs.lemmas.Result.{err_from_is_err_and}
use Rattle.std.specs.Int.{w64}
use Rattle.mb_bytes.proofs.Exactly.{number_ok, number_err}
use Rattle.mb_hss.proofs.maker_file.take_u64.Goals as goal

pub returns-in_err-take_array : goal.returns-in_err-take_array
returns-in_err-take_array c =
    let p = err_from_is_err_and c.from_residual.result c.from_residual.ensures.1 in
    rw (p.1, p.2) (number_err w64 c.in_err-take_array.ensures.reads)

pub returns : goal.returns
returns c = rw c.from_be_bytes.ensures (number_ok w64 c.in_ok-take_array.ensures.reads)
