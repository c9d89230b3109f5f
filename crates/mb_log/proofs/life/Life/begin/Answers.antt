use Rattle.mb_log.proofs.KeyLives.{life_begins}
use Rattle.mb_log.proofs.life.Life.begin.Goals as goal

pub returns : goal.returns
returns c = life_begins c.args.number c.new.result c.new.ensures
