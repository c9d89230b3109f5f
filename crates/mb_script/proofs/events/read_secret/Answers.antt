use Rattle.std.proofs.Common.{sym, subst, List, ℕ}
use Rattle.mb_model.specs.chains.Script.{IsName}
use Rattle.mb_words.proofs.Parts.{clash}
use Rattle.mb_script.proofs.Parts.{secret_name}
use Rattle.mb_script.proofs.events.read_secret.Goals as goal

pub returns-then-not-is_name : goal.returns-then-not-is_name
returns-then-not-is_name c = λ secret says.
    let same = secret_name c.args.words.now c.in-Some.region secret.0 c.in-Some.name.now secret.1 c.in-Some.ensures says in
    clash _ (c.is_name.ensures.1 (subst (λ (x : List ℕ). IsName x) (sym same) says.named)) c.if-not-is_name.true
