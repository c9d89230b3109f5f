use Rattle.std.proofs.Common.{ℕ, List, Some, None, refl, sym, ap, ◌∙◌}
use Rattle.mb_policy.specs.Policies.{number_between}
use Rattle.mb_policy.specs.Reading.{later_words, number_first, reads_numbers}
use Rattle.mb_policy.proofs.Leaves.{none_here, some_here}
use Rattle.mb_policy.proofs.operands.read_numbers.Goals as goal

pub returns-in_default : goal.returns-in_default
unfolding reads_numbers
returns-in_default c =
    λ items.
    none_here number_first c.args.words.now c.args.words.now _ c.in_default.ensures.found refl

pub returns-in_default-take_number : goal.returns-in_default-take_number
unfolding reads_numbers
returns-in_default-take_number c =
    λ items.
    some_here number_first c.args.words.now c.args.words.now c.in-Some.least _ None c.in-Some.ensures.found refl
    (none_here number_first c.take_number.new.words (later_words c.args.words.now) _ c.in_default-take_number.ensures.found c.in-Some.ensures.left)

pub returns : goal.returns
unfolding reads_numbers
returns c =
    λ items.
    some_here number_first c.args.words.now c.args.words.now c.in-Some.least _ (Some (number_between c.in-Some.least c.in-Some-take_number.most, c.take_number-2.new.words)) c.in-Some.ensures.found refl
    (some_here number_first c.take_number.new.words (later_words c.args.words.now) c.in-Some-take_number.most _ (Some (number_between c.in-Some.least c.in-Some-take_number.most, c.take_number-2.new.words)) c.in-Some-take_number.ensures.found c.in-Some.ensures.left
    (ap (λ (left : List (List ℕ)). Some (number_between c.in-Some.least c.in-Some-take_number.most, left)) (sym (c.in-Some-take_number.ensures.left ∙ ap later_words c.in-Some.ensures.left))))
