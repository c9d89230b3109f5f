use Rattle.std.proofs.Common.{List, ℕ, ◌∷◌, [], subst, sym}
use Rattle.std.proofs.lemmas.Result.{err_from_is_err_and}
use Rattle.mb_model.specs.outside.Texts.{IsHex}
use Rattle.mb_model.specs.chains.OrderLines.{IsOrderLine}
use Rattle.mb_words.proofs.Parts.{passed}
use Rattle.mb_officer.proofs.OrderTexts.{line_hex, line_finds}
use Rattle.mb_officer.proofs.order_line.order_in.Goals as goal

pub returns-in_err-bytes : goal.returns-in_err-bytes
returns-in_err-bytes c =
    let p = err_from_is_err_and c.from_residual.result c.from_residual.ensures.1 in
    passed (IsOrderLine (c.args.line.now ∷ [])) (λ (bytes : List ℕ). IsHex c.in-Some.word.now bytes) c.from_residual.result _ p.0 p.1 p.2
    (λ order is. (is.bytes, line_hex c.args.line.now c.in-Some.word.now order is c.in-Some.ensures)) c.in_err-bytes.ensures

pub returns : goal.returns
returns c =
    let hex : IsHex c.in-Some.word.now c.as_slice.result.now =
    subst (λ (x : List ℕ). IsHex c.in-Some.word.now x) (sym c.as_slice.ensures) c.in_ok-bytes.ensures in
    line_finds c.args.line.now c.in-Some.word.now c.as_slice.result.now c.in-Some.ensures hex c.order_of.result c.order_of.ensures
