use Rattle.std.proofs.Common.{◌*◌, arith, sym}
use Rattle.mb_model.specs.outside.Board.{erased_bytes}
use Rattle.mb_model.proofs.Places.{length-erased}
use Rattle.mb_board.proofs.Fillings.{torn_write}
use Rattle.mb_board.proofs.bank.Bank.erase_torn.Goals as goal

pub returns : goal.returns
returns c =
    torn_write c.args.tear.now (4096 * c.args.sector) 4096 (erased_bytes 4096) _ _ _ c.spoil.ensures c.erase.ensures
    (sym (length-erased 4096)) (omega (arith, length-erased 4096))
