use Rattle.std.proofs.lemmas.Result.{err_from_is_err_and}
use Rattle.mb_log.proofs.Fronts.{figures_go_on}
use Rattle.mb_verifier.specs.Checked.{HasBadEntry}
use Rattle.mb_verifier.specs.Ends.{chain_refusal_of}
use Rattle.mb_model_lemmas.proofs.ChainLemmas.{AreGood-nil}
use Rattle.mb_verifier.proofs.Judging.{AreGood-more, bad_entry, life_next, if_some_weaker}
use Rattle.mb_verifier.proofs.entries.judge.Goals as goal

pub loop-signed-init : goal.loop-signed-init
loop-signed-init c = record { good = AreGood-nil c.args.maker.now; figures = c.no_figures-figures.ensures; life = c.begin-life.ensures }

pub returns-in_err-check-clause-refused : goal.returns-in_err-check-clause-refused
returns-in_err-check-clause-refused c =
    let maker = c.args.maker.now in
    let log = c.args.log.now in
    let i = c.loop-signed.signed-index in
    let p = err_from_is_err_and c.from_residual-in_err-check.result c.from_residual-in_err-check.ensures.1 in
    rw (p.1, p.2) (if_some_weaker _ (HasBadEntry maker log) (chain_refusal_of c.in_err-check.field-0.0)
    (λ why bad. bad_entry maker log i _ c.loop-signed.figures why c.loop-signed-test.true c.loop-signed.invariant.figures c.loop-signed.invariant.good bad)
    c.in_err-check.ensures.refused)

pub loop-signed-preserved : goal.loop-signed-preserved
loop-signed-preserved c =
    let maker = c.args.maker.now in
    let log = c.args.log.now in
    let i = c.loop-signed.signed-index in
    let within = c.loop-signed-test.true in
    let good = AreGood-more maker log i _ c.loop-signed.figures within c.loop-signed.invariant.figures c.loop-signed.invariant.good c.in_ok-check.ensures.good in
    record {
      good = good;
      figures = figures_go_on log i _ c.loop-signed.figures c.add_entry.new.figures within c.requires.short c.loop-signed.invariant.figures c.add_entry.ensures;
      life = life_next maker log i _ c.args.key c.loop-signed.figures c.loop-signed.life c.add.new.self within good c.loop-signed.invariant.figures c.loop-signed.invariant.life c.in_ok-add.ensures.ok;
    }
