use Rattle.std.proofs.Common.{List, ℕ, ◌++◌, sym, subst}
use Rattle.std.specs.Prelude.{codes}
use Rattle.std.proofs.lemmas.Result.{err_from_is_err_and}
use Rattle.mb_model.specs.outside.Texts.{IsHex}
use Rattle.mb_model.specs.chains.Script.{SaysEvent, FitsInput}
use Rattle.mb_words.proofs.Parts.{passed}
use Rattle.mb_script.proofs.Parts.{call_key, call_input}
use Rattle.mb_script.proofs.LineKinds.{call_says}
use Rattle.mb_script.proofs.events.read_call.Goals as goal

pub returns-in_default-split_key : goal.returns-in_default-split_key
returns-in_default-split_key c = λ e says.
    let is = call_says c.args.words.now e says in
    c.in_default-split_key.ensures is.key is.word (call_key c.args.words.now c.in-Some.region is.region is.key c.in-Some.rest.now is.word c.in-Some.ensures is.first is.within)

pub returns-in_err-input : goal.returns-in_err-input
returns-in_err-input c =
    let p = err_from_is_err_and c.from_residual.result c.from_residual.ensures.1 in
    passed (SaysEvent (codes "call " ++ c.args.words.now)) (λ (input : List ℕ). IsHex c.in-Some-split_key.word.now input × FitsInput input) c.from_residual.result _ p.0 p.1 p.2
    (λ e says.
    let is = call_says c.args.words.now e says in
    let word = call_input c.args.words.now c.in-Some.region is.region c.in-Some-split_key.key is.key c.in-Some.rest.now c.in-Some-split_key.word.now is.word c.in-Some.ensures c.in-Some-split_key.ensures is.first is.within in
    (is.input, subst (λ (x : List ℕ). IsHex x is.input × FitsInput is.input) (sym word) is.bounded)) c.in_err-input.ensures
