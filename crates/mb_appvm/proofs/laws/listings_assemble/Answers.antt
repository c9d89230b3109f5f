use Rattle.mb_appvm.proofs.Clear.{listings_assemble}
use Rattle.mb_appvm.proofs.laws.listings_assemble.Goals as goal

pub returns : goal.returns
returns c = listings_assemble
