use Rattle.std.proofs.Common.{refl}
use Rattle.mb_board.proofs.Fillings.{torn_write}
use Rattle.mb_board.proofs.bank.Bank.write_torn.Goals as goal

pub returns : goal.returns
returns c =
    torn_write c.args.tear.now c.args.at _ c.args.bytes.now _ _ _ c.spoil.ensures c.write.ensures refl c.requires.within
