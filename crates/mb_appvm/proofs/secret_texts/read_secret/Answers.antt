use Rattle.std.proofs.Common.{List, ℕ, ◌≤◌, length, sym}
use Rattle.std.proofs.lemmas.Result.{err_from_is_err_and}
use Rattle.mb_model.specs.outside.Texts.{IsHex}
use Rattle.mb_words.proofs.Parts.{passed}
use Rattle.mb_appvm.specs.SecretTexts.{AddsSecret}
use Rattle.mb_appvm.proofs.SecretReading.{adds_no_name, adds_value}
use Rattle.mb_appvm.proofs.secret_texts.read_secret.Goals as goal

pub returns-then-has_name : goal.returns-then-has_name
returns-then-has_name c =
    adds_no_name c.args.before.now c.args.line.now c.in-Some.name.now c.in-Some.word.now c.in-Some.ensures (sym c.if-has_name.ensures)

pub returns-in_err-value : goal.returns-in_err-value
returns-in_err-value c =
    let p = err_from_is_err_and c.from_residual.result c.from_residual.ensures.1 in
    passed (AddsSecret c.args.before.now c.args.line.now) (λ (value : List ℕ). IsHex c.in-Some.word.now value × (length value ≤ 128)) c.from_residual.result _ p.0 p.1 p.2
    (adds_value c.args.before.now c.args.line.now c.in-Some.name.now c.in-Some.word.now c.in-Some.ensures) c.in_err-value.ensures
