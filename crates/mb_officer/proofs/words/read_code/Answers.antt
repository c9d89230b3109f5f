use Rattle.std.proofs.Common.{List, ℕ, ◌≤◌, ◌∷◌, [], length}
use Rattle.std.specs.Prelude.{codes}
use Rattle.std.proofs.lemmas.Result.{err_from_is_err_and}
use Rattle.mb_model.specs.outside.Texts.{IsHex}
use Rattle.mb_model.specs.chains.Script.{EndsInHex}
use Rattle.mb_words.proofs.Parts.{passed}
use Rattle.mb_officer.proofs.Wording.{hex_word}
use Rattle.mb_officer.proofs.words.read_code.Goals as goal

pub returns-in_err-code : goal.returns-in_err-code
returns-in_err-code c =
    let p = err_from_is_err_and c.from_residual.result c.from_residual.ensures.1 in
    passed (λ (code : List ℕ). (length code ≤ 32768) × EndsInHex c.args.line.now (codes "code" ∷ []) code) (λ (bytes : List ℕ). IsHex c.in-Some.word.now bytes)
    c.from_residual.result _ p.0 p.1 p.2
    (λ code is. (code, hex_word (codes "code ") c.args.line.now c.in-Some.word.now code c.in-Some.ensures is.1.0 is.1.1 is.1.2)) c.in_err-code.ensures
