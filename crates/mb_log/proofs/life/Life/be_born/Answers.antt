use Rattle.mb_log.proofs.KeyLives.{stays_unborn, no_new_key, other_born, is_born}
use Rattle.mb_log.proofs.life.Life.be_born.Goals as goal

pub returns-in_default : goal.returns-in_default
returns-in_default c = record {
  ok = λ before n figures unborn is. stays_unborn before c.args.entry.now n c.args.self.now unborn (no_new_key n c.args.entry.now c.in_default.not-NewKey) is;
  err = tt;
}

pub returns-then-key_number-self-clause-ok : goal.returns-then-key_number-self-clause-ok
returns-then-key_number-self-clause-ok c = λ before n figures unborn is.
    other_born before c.args.entry.now c.in-NewKey.position c.in-NewKey.number c.in-NewKey.key_number n c.in-NewKey.layer c.in-NewKey.kind c.in-NewKey.key c.args.self.now
    c.in-NewKey.is c.if-key_number-self.true unborn is

pub returns-clause-ok : goal.returns-clause-ok
returns-clause-ok c = λ before n figures unborn is.
    is_born before c.args.entry.now c.args.figures.now c.in-NewKey.position c.in-NewKey.number c.in-NewKey.key_number n c.in-NewKey.layer c.in-NewKey.kind c.in-NewKey.key c.args.self.now
    c.configuration.result c.push.new.self figures c.in-NewKey.is c.if-key_number-self.false c.configuration.ensures c.in_ok-push.ensures.ok unborn is
