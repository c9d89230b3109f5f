use Rattle.mb_log.proofs.KeyLives.{goes_on, both_on_ok}
use Rattle.mb_log.proofs.life.Life.add.Goals as goal

pub returns-in-Some-clause-ok : goal.returns-in-Some-clause-ok
returns-in-Some-clause-ok c = λ before n figures ruled is.
    both_on_ok c.live_on.result _ _ _ c.live_on.ensures.alive c.live_on.ensures.lives
    (λ alive lives. goes_on before c.args.entry.now n c.args.self.now c.live_on.new.self c.in-Some.born ruled c.in-Some.is is c.live_on.ensures.number c.live_on.ensures.born alive lives)
