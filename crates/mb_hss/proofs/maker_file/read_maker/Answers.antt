use Rattle.mb_hss.proofs.MakerFormatLemmas.{read_is_maker}
use Rattle.mb_hss.proofs.maker_file.read_maker.Goals as goal

pub returns-clause-valid : goal.returns-clause-valid
returns-clause-valid c = read_is_maker c.args.bytes.now c.read_whole.result c.read_whole.ensures
