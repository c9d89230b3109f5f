use Rattle.mb_hss.proofs.HssKeyLemmas.{read_levels}
use Rattle.mb_hss.proofs.key.read_hss_key.Goals as goal

pub returns-clause-levels : goal.returns-clause-levels
returns-clause-levels c = read_levels c.args.bytes.now c.read_whole.result c.read_whole.ensures
