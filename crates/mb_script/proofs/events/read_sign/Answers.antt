use Rattle.std.proofs.Common.{List, ℕ, ◌++◌, sym, subst}
use Rattle.std.specs.Prelude.{codes}
use Rattle.std.proofs.lemmas.Result.{err_from_is_err_and}
use Rattle.mb_model.specs.outside.Texts.{IsHex}
use Rattle.mb_model.specs.chains.Script.{SaysEvent, FitsMessage}
use Rattle.mb_words.proofs.Parts.{passed}
use Rattle.mb_script.proofs.Parts.{sign_key, sign_word}
use Rattle.mb_script.proofs.LineKinds.{sign_says}
use Rattle.mb_script.proofs.events.read_sign.Goals as goal

pub returns-in_default-split_number : goal.returns-in_default-split_number
returns-in_default-split_number c = λ e says.
    let is = sign_says c.args.words.now e says in
    c.in_default-split_number.ensures is.key is.word (sign_key c.args.words.now c.in-Some.region is.region is.key c.in-Some.rest.now is.word c.in-Some.ensures is.first is.within)

pub returns-in_err-message : goal.returns-in_err-message
returns-in_err-message c =
    let p = err_from_is_err_and c.from_residual.result c.from_residual.ensures.1 in
    passed (SaysEvent (codes "sign " ++ c.args.words.now)) (λ (message : List ℕ). IsHex c.in-Some-split_number.word.now message × FitsMessage message) c.from_residual.result _ p.0 p.1 p.2
    (λ e says.
    let is = sign_says c.args.words.now e says in
    let word = sign_word c.args.words.now c.in-Some.region is.region c.in-Some-split_number.key is.key c.in-Some.rest.now c.in-Some-split_number.word.now is.word c.in-Some.ensures c.in-Some-split_number.ensures is.first is.within in
    (is.message, subst (λ (x : List ℕ). IsHex x is.message × FitsMessage is.message) (sym word) is.short)) c.in_err-message.ensures
