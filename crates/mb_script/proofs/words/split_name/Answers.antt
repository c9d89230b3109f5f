use Rattle.std.proofs.Common.{sym, subst, List, ℕ}
use Rattle.mb_model.specs.chains.Script.{IsName}
use Rattle.mb_words.proofs.Parts.{clash}
use Rattle.mb_script.proofs.Parts.{name_word, name_none}
use Rattle.mb_script.proofs.words.split_name.Goals as goal

pub returns-in_default : goal.returns-in_default
returns-in_default c = λ name rest has. name_none c.args.text.now name rest c.in_default.ensures has

pub returns-else-is_name : goal.returns-else-is_name
returns-else-is_name c = λ name rest has.
    let parts = name_word c.args.text.now c.in-Some.word.now c.in-Some.rest.now name rest c.in-Some.ensures has in
    clash _ (c.is_name.ensures.1 (subst (λ (x : List ℕ). IsName x) (sym parts.0) has.named)) c.if-is_name.false
