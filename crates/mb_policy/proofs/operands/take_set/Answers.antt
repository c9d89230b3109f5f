use Rattle.std.proofs.Common.{ap, ◌∙◌, Option, ℕ, []}
use Rattle.mb_policy.specs.Meanings.{items_of, set_given}
use Rattle.mb_policy.proofs.Names.{sets_named}
use Rattle.mb_policy.proofs.Leaves.{set_next, set_over}
use Rattle.mb_policy.proofs.operands.take_set.Goals as goal

pub returns-in-Some-clause-found : goal.returns-in-Some-clause-found
returns-in-Some-clause-found c =
    set_next (items_of c.args.before.now) c.args.words.now c.take.new.self c.in-Some.word.now c.find_set.result c.in-Some.ensures
    (ap (λ (r : Option ℕ). set_given (items_of c.args.before.now) r) c.find_set.ensures ∙ sets_named c.in-Some.word.now [] c.args.before.now)

pub returns-in-None-clause-found : goal.returns-in-None-clause-found
returns-in-None-clause-found c = set_over (items_of c.args.before.now) c.args.words.now c.in-None.ensures.0
