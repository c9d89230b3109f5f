use Rattle.std.proofs.Common.{sym, subst, List, ℕ, ◌++◌}
use Rattle.std.specs.Prelude.{codes}
use Rattle.mb_model.specs.chains.Drafts.{SaysTarget}
use Rattle.mb_words.specs.Words.{FindsSome}
use Rattle.mb_officer.proofs.words.read_demand.Goals as goal

pub returns-in-Some-after_word-2 : goal.returns-in-Some-after_word-2
returns-in-Some-after_word-2 c =
    subst (λ (x : List ℕ). FindsSome (SaysTarget (codes "target " ++ x)) c.read_owner_demand.result) (sym c.in-Some-after_word-2.ensures) c.read_owner_demand.ensures

pub returns-in-Some-after_word-3 : goal.returns-in-Some-after_word-3
returns-in-Some-after_word-3 c =
    subst (λ (x : List ℕ). FindsSome (SaysTarget (codes "target " ++ x)) c.read_code_demand.result) (sym c.in-Some-after_word-3.ensures) c.read_code_demand.ensures
