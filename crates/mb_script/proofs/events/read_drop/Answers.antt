use Rattle.std.proofs.Common.{List, ℕ, ◌++◌}
use Rattle.std.specs.Prelude.{codes}
use Rattle.std.proofs.lemmas.Result.{err_from_is_err_and}
use Rattle.mb_model.specs.chains.Script.{SaysEvent}
use Rattle.mb_script.specs.Reading.{SaysSecret}
use Rattle.mb_words.proofs.Parts.{passed}
use Rattle.mb_script.proofs.LineKinds.{drop_says}
use Rattle.mb_script.proofs.events.read_drop.Goals as goal

pub returns-in_err-region : goal.returns-in_err-region
returns-in_err-region c =
    let p = err_from_is_err_and c.from_residual.result c.from_residual.ensures.1 in
    passed (SaysEvent (codes "drop " ++ c.args.words.now)) (λ (secret : ℕ × List ℕ). SaysSecret c.args.words.now secret.0 secret.1) c.from_residual.result _ p.0 p.1 p.2
    (drop_says c.args.words.now) c.in_err-region.ensures
