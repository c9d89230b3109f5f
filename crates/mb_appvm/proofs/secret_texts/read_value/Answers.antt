use Rattle.std.proofs.Common.{List, ℕ, ◌≤◌, length}
use Rattle.std.proofs.lemmas.Result.{err_from_is_err_and}
use Rattle.mb_model.specs.outside.Texts.{IsHex}
use Rattle.mb_words.proofs.Parts.{passed}
use Rattle.mb_appvm.proofs.secret_texts.read_value.Goals as goal

pub returns-in_err-value : goal.returns-in_err-value
returns-in_err-value c =
    let p = err_from_is_err_and c.from_residual.result c.from_residual.ensures.1 in
    passed (λ (value : List ℕ). IsHex c.args.word.now value × (length value ≤ 128)) (λ (value : List ℕ). IsHex c.args.word.now value) c.from_residual.result _ p.0 p.1 p.2
    (λ value is. (value, is.0)) c.in_err-value.ensures
