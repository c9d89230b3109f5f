use Rattle.std.proofs.Common.{ap, ◌∙◌}
use Rattle.std.proofs.lemmas.Result.{err_from_is_err_and}
use Rattle.sha2.specs.Sha256.{sha256}
use Rattle.mb_log.proofs.Fronts.{figures_go_on}
use Rattle.mb_verifier.specs.Checked.{HasBadEntry}
use Rattle.mb_verifier.specs.Ends.{chain_refusal_of}
use Rattle.mb_model_lemmas.proofs.ChainLemmas.{AreGood-nil}
use Rattle.mb_verifier.proofs.Judging.{AreGood-more, bad_entry, hashes_go_on, if_some_weaker}
use Rattle.mb_verifier.proofs.entries.hash_entries.Goals as goal

pub loop-signed-init : goal.loop-signed-init
loop-signed-init c = record { good = AreGood-nil c.args.maker.now; figures = c.no_figures-figures.ensures; hashes = c.new-hashes.ensures }

pub returns-in_err-check-clause-refused : goal.returns-in_err-check-clause-refused
returns-in_err-check-clause-refused c =
    let maker = c.args.maker.now in
    let log = c.args.log.now in
    let i = c.loop-signed.signed-index in
    let p = err_from_is_err_and c.from_residual-in_err-check.result c.from_residual-in_err-check.ensures.1 in
    rw (p.1, p.2) (if_some_weaker _ (HasBadEntry maker log) (chain_refusal_of c.in_err-check.field-0.0)
    (λ why bad. bad_entry maker log i _ c.loop-signed.figures why c.loop-signed-test.true c.loop-signed.invariant.figures c.loop-signed.invariant.good bad)
    c.in_err-check.ensures.refused)

pub loop-signed-preserved : goal.loop-signed-preserved
loop-signed-preserved c =
    let maker = c.args.maker.now in
    let log = c.args.log.now in
    let i = c.loop-signed.signed-index in
    let within = c.loop-signed-test.true in
    record {
      good = AreGood-more maker log i _ c.loop-signed.figures within c.loop-signed.invariant.figures c.loop-signed.invariant.good c.in_ok-check.ensures.good;
      figures = figures_go_on log i _ c.loop-signed.figures c.add_entry.new.figures within c.requires.short c.loop-signed.invariant.figures c.add_entry.ensures;
      hashes =
          hashes_go_on log i _ c.loop-signed.hashes c.push.new.self c.hash_of.result within c.loop-signed.invariant.hashes c.in_ok-push.ensures.ok
          (c.hash_of.ensures ∙ ap sha256 (c.as_slice-in-loop-signed.ensures ∙ c.in_ok-spelling.ensures));
    }
