use Rattle.std.proofs.Common.{ℕ, List, Some, None, refl, sym, ap, ◌∙◌}
use Rattle.mb_policy.specs.Policies.{version_between}
use Rattle.mb_policy.specs.Reading.{later_words, layer_first, number_first, reads_version}
use Rattle.mb_policy.proofs.Leaves.{none_here, some_here}
use Rattle.mb_policy.proofs.operands.read_version.Goals as goal

pub returns-in_default : goal.returns-in_default
unfolding reads_version
returns-in_default c =
    λ items.
    none_here (layer_first 3) c.args.words.now c.args.words.now _ c.in_default.ensures.found refl

pub returns-in_default-take_number : goal.returns-in_default-take_number
unfolding reads_version
returns-in_default-take_number c =
    λ items.
    some_here (layer_first 3) c.args.words.now c.args.words.now c.in-Some.layer _ None c.in-Some.ensures.found refl
    (none_here number_first c.take_layer.new.words (later_words c.args.words.now) _ c.in_default-take_number.ensures.found c.in-Some.ensures.left)

pub returns-in_default-take_number-2 : goal.returns-in_default-take_number-2
unfolding reads_version
returns-in_default-take_number-2 c =
    λ items.
    some_here (layer_first 3) c.args.words.now c.args.words.now c.in-Some.layer _ None c.in-Some.ensures.found refl
    (some_here number_first c.take_layer.new.words (later_words c.args.words.now) c.in-Some-take_number.least _ None c.in-Some-take_number.ensures.found c.in-Some.ensures.left
    (none_here number_first c.take_number.new.words (later_words (later_words c.args.words.now)) _ c.in_default-take_number-2.ensures.found (c.in-Some-take_number.ensures.left ∙ ap later_words c.in-Some.ensures.left)))

pub returns : goal.returns
unfolding reads_version
returns c =
    λ items.
    some_here (layer_first 3) c.args.words.now c.args.words.now c.in-Some.layer _ (Some (version_between c.in-Some.layer c.in-Some-take_number.least c.in-Some-take_number-2.most, c.take_number-2.new.words)) c.in-Some.ensures.found refl
    (some_here number_first c.take_layer.new.words (later_words c.args.words.now) c.in-Some-take_number.least _ (Some (version_between c.in-Some.layer c.in-Some-take_number.least c.in-Some-take_number-2.most, c.take_number-2.new.words)) c.in-Some-take_number.ensures.found c.in-Some.ensures.left
    (some_here number_first c.take_number.new.words (later_words (later_words c.args.words.now)) c.in-Some-take_number-2.most _ (Some (version_between c.in-Some.layer c.in-Some-take_number.least c.in-Some-take_number-2.most, c.take_number-2.new.words)) c.in-Some-take_number-2.ensures.found (c.in-Some-take_number.ensures.left ∙ ap later_words c.in-Some.ensures.left)
    (ap (λ (left : List (List ℕ)). Some (version_between c.in-Some.layer c.in-Some-take_number.least c.in-Some-take_number-2.most, left)) (sym (c.in-Some-take_number-2.ensures.left ∙ ap later_words (c.in-Some-take_number.ensures.left ∙ ap later_words c.in-Some.ensures.left))))))
