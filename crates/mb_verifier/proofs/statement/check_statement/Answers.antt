use Rattle.std.proofs.Common.{sym, refl, ◌∙◌}
use Rattle.mb_model.specs.owners.Log.{entries_of}
use Rattle.mb_log.proofs.KeyLives.{figures_number}
use Rattle.mb_verifier.proofs.Stating.{alive_is}
use Rattle.mb_verifier.proofs.statement.check_statement.Goals as goal

pub returns-then-statement-last-clause-refused : goal.returns-then-statement-last-clause-refused
returns-then-statement-last-clause-refused c =
    (c.is_stated.ensures.0 c.if-not-is_stated.false, refl, figures_number c.args.judged.now.figures (entries_of c.args.log.now) c.requires.figures, c.if-statement-last.true)

pub returns-then-not-judged-clause-refused : goal.returns-then-not-judged-clause-refused
returns-then-not-judged-clause-refused c =
    let alive = alive_is (entries_of c.args.log.now) c.args.judged.now.life.number c.args.judged.now.life c.args.born.now c.requires.life c.requires.born in (
      c.is_stated.ensures.0 c.if-not-is_stated.false,
      c.if-statement-last.false ∙ figures_number c.args.judged.now.figures (entries_of c.args.log.now) c.requires.figures,
      sym alive ∙ c.if-not-judged.true,
    )

pub returns-clause-current : goal.returns-clause-current
returns-clause-current c =
    let alive = alive_is (entries_of c.args.log.now) c.args.judged.now.life.number c.args.judged.now.life c.args.born.now c.requires.life c.requires.born in
    record {
      signed = c.is_stated.ensures.0 c.if-not-is_stated.false;
      number = c.if-statement-last.false ∙ figures_number c.args.judged.now.figures (entries_of c.args.log.now) c.requires.figures;
      alive = sym alive ∙ c.if-not-judged.false;
    }
