use Rattle.std.proofs.Common.{ℕ, List, Some, None, refl, sym, ap}
use Rattle.mb_policy.specs.Policies.{input_in}
use Rattle.mb_policy.specs.Reading.{later_words, reads_input, set_first}
use Rattle.mb_policy.specs.Meanings.{items_of, set_at}
use Rattle.mb_policy.proofs.Leaves.{none_here, some_here}
use Rattle.mb_policy.proofs.operands.read_input.Goals as goal

pub returns-in_default : goal.returns-in_default
unfolding reads_input
returns-in_default c =
    none_here (set_first (items_of c.args.before.now)) c.args.words.now c.args.words.now _ c.in_default.ensures.found refl

pub returns : goal.returns
unfolding reads_input
returns c =
    let set = set_at (items_of c.args.before.now) c.in-Some.set in
    some_here (set_first (items_of c.args.before.now)) c.args.words.now c.args.words.now set _ (Some (input_in set, c.take_set.new.words)) c.in-Some.ensures.found refl
    (ap (λ (left : List (List ℕ)). Some (input_in set, left)) (sym c.in-Some.ensures.left))
