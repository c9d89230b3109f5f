use Rattle.std.proofs.Common.{List, ℕ, ◌≤◌, length}
use Rattle.std.proofs.lemmas.Result.{err_from_is_err_and}
use Rattle.mb_model.specs.outside.Texts.{IsHex}
use Rattle.mb_words.proofs.Parts.{passed}
use Rattle.mb_script.proofs.words.read_bounded.Goals as goal

pub returns-in_err-bytes : goal.returns-in_err-bytes
returns-in_err-bytes c =
    let p = err_from_is_err_and c.from_residual.result c.from_residual.ensures.1 in
    passed (λ (bytes : List ℕ). IsHex c.args.word.now bytes × (length bytes ≤ c.args.most)) (λ (bytes : List ℕ). IsHex c.args.word.now bytes) c.from_residual.result _ p.0 p.1 p.2
    (λ bytes is. (bytes, is.0)) c.in_err-bytes.ensures
