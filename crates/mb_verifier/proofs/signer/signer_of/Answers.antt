use Rattle.std.proofs.Common.{◌≡◌, true, false, refl, sym, ◌∙◌, arith}
use Rattle.mb_model.specs.owners.Log.{entries_of}
use Rattle.mb_log.proofs.KeyLives.{figures_number}
use Rattle.mb_verifier.specs.Signers.{is_unsigned, is_refused_for}
use Rattle.mb_verifier.proofs.signer.signer_of.Goals as goal

pub returns-in_default-clause-refused : goal.returns-in_default-clause-refused
returns-in_default-clause-refused c = is_unsigned refl c.in_default.ensures

pub returns-then-statement-last-clause-refused : goal.returns-then-statement-last-clause-refused
returns-then-statement-last-clause-refused c =
    let signer = c.in-Some.ensures in
    let last = figures_number c.figures_of-last.result (entries_of c.args.log.now) c.figures_of-last.ensures in
    is_refused_for c.in-Some.key signer.0 signer.1 (signer.1.signed, refl, last, c.if-statement-last.true)

pub returns-then-not-life-clause-refused : goal.returns-then-not-life-clause-refused
returns-then-not-life-clause-refused c =
    let signer = c.in-Some.ensures in
    let last = figures_number c.figures_of-last.result (entries_of c.args.log.now) c.figures_of-last.ensures in
    let ended : c.in_ok-life.life.alive ≡ false = grind (arith, c.if-not-life.true) in
    is_refused_for c.in-Some.key signer.0 signer.1
    (signer.1.signed, c.if-statement-last.false ∙ last, sym (c.in_ok-life.ensures.alive signer.0 signer.1.named) ∙ ended)

pub returns-clause-signed : goal.returns-clause-signed
returns-clause-signed c =
    let signer = c.in-Some.ensures in
    let last = figures_number c.figures_of-last.result (entries_of c.args.log.now) c.figures_of-last.ensures in
    let alive : c.in_ok-life.life.alive ≡ true = grind (arith, c.if-not-life.false) in
    record {
      made = signer.0;
      signer = signer.1;
      current = record {
        signed = signer.1.signed;
        number = c.if-statement-last.false ∙ last;
        alive = sym (c.in_ok-life.ensures.alive signer.0 signer.1.named) ∙ alive;
      };
    }
