use Rattle.std.proofs.Common.{List, ℕ, ◌++◌}
use Rattle.std.specs.Prelude.{codes}
use Rattle.std.proofs.lemmas.Result.{err_from_is_err_and}
use Rattle.mb_model.specs.outside.Texts.{IsHex}
use Rattle.mb_model.specs.chains.Script.{SaysEvent}
use Rattle.mb_words.proofs.Parts.{passed}
use Rattle.mb_script.proofs.LineKinds.{command_says}
use Rattle.mb_script.proofs.events.read_command.Goals as goal

pub returns-in_err-text : goal.returns-in_err-text
returns-in_err-text c =
    let p = err_from_is_err_and c.from_residual.result c.from_residual.ensures.1 in
    passed (SaysEvent (codes "command " ++ c.args.word.now)) (λ (bytes : List ℕ). IsHex c.args.word.now bytes) c.from_residual.result _ p.0 p.1 p.2
    (command_says c.args.word.now) c.in_err-text.ensures
