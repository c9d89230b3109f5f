use Rattle.std.proofs.Common.{List, ℕ, ◌++◌, sym, subst}
use Rattle.std.specs.Prelude.{codes}
use Rattle.std.proofs.lemmas.Result.{err_from_is_err_and}
use Rattle.mb_model.specs.outside.Texts.{IsHex}
use Rattle.mb_model.specs.chains.Script.{SaysEvent, FitsMessage}
use Rattle.mb_words.proofs.Parts.{passed}
use Rattle.mb_script.proofs.Parts.{put_name, put_word}
use Rattle.mb_script.proofs.LineKinds.{put_says}
use Rattle.mb_script.proofs.events.read_put.Goals as goal

pub returns-in_default-split_name : goal.returns-in_default-split_name
returns-in_default-split_name c = λ e says.
    let is = put_says c.args.words.now e says in
    c.in_default-split_name.ensures is.name is.word (put_name c.args.words.now c.in-Some.region is.region c.in-Some.rest.now is.name is.word c.in-Some.ensures is.first is.named)

pub returns-in_err-value : goal.returns-in_err-value
returns-in_err-value c =
    let p = err_from_is_err_and c.from_residual.result c.from_residual.ensures.1 in
    passed (SaysEvent (codes "put " ++ c.args.words.now)) (λ (value : List ℕ). IsHex c.in-Some-split_name.word.now value × FitsMessage value) c.from_residual.result _ p.0 p.1 p.2
    (λ e says.
    let is = put_says c.args.words.now e says in
    let word = put_word c.args.words.now c.in-Some.region is.region c.in-Some.rest.now c.in-Some-split_name.name.now is.name c.in-Some-split_name.word.now is.word c.in-Some.ensures c.in-Some-split_name.ensures is.first is.named in
    (is.value, subst (λ (x : List ℕ). IsHex x is.value × FitsMessage is.value) (sym word) is.short)) c.in_err-value.ensures
