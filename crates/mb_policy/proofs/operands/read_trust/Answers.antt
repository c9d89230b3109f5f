use Rattle.std.proofs.Common.{ℕ, List, Some, None, refl, sym, ap, ◌∙◌}
use Rattle.mb_policy.specs.Policies.{trust_is}
use Rattle.mb_policy.specs.Reading.{later_words, layer_first, reads_trust, trust_first}
use Rattle.mb_policy.proofs.Leaves.{none_here, some_here}
use Rattle.mb_policy.proofs.operands.read_trust.Goals as goal

pub returns-in_default : goal.returns-in_default
unfolding reads_trust
returns-in_default c =
    λ items.
    none_here (layer_first 3) c.args.words.now c.args.words.now _ c.in_default.ensures.found refl

pub returns-in_default-take_layer : goal.returns-in_default-take_layer
unfolding reads_trust
returns-in_default-take_layer c =
    λ items.
    some_here (layer_first 3) c.args.words.now c.args.words.now c.in-Some.layer _ None c.in-Some.ensures.found refl
    (none_here (layer_first 2) c.take_layer.new.words (later_words c.args.words.now) _ c.in_default-take_layer.ensures.found c.in-Some.ensures.left)

pub returns-in_default-take_trust : goal.returns-in_default-take_trust
unfolding reads_trust
returns-in_default-take_trust c =
    λ items.
    some_here (layer_first 3) c.args.words.now c.args.words.now c.in-Some.layer _ None c.in-Some.ensures.found refl
    (some_here (layer_first 2) c.take_layer.new.words (later_words c.args.words.now) c.in-Some-take_layer.lower _ None c.in-Some-take_layer.ensures.found c.in-Some.ensures.left
    (none_here trust_first c.take_layer-2.new.words (later_words (later_words c.args.words.now)) _ c.in_default-take_trust.ensures.found (c.in-Some-take_layer.ensures.left ∙ ap later_words c.in-Some.ensures.left)))

pub returns : goal.returns
unfolding reads_trust
returns c =
    λ items.
    some_here (layer_first 3) c.args.words.now c.args.words.now c.in-Some.layer _ (Some (trust_is c.in-Some.layer c.in-Some-take_layer.lower c.in-Some-take_trust.trust, c.take_trust.new.words)) c.in-Some.ensures.found refl
    (some_here (layer_first 2) c.take_layer.new.words (later_words c.args.words.now) c.in-Some-take_layer.lower _ (Some (trust_is c.in-Some.layer c.in-Some-take_layer.lower c.in-Some-take_trust.trust, c.take_trust.new.words)) c.in-Some-take_layer.ensures.found c.in-Some.ensures.left
    (some_here trust_first c.take_layer-2.new.words (later_words (later_words c.args.words.now)) c.in-Some-take_trust.trust _ (Some (trust_is c.in-Some.layer c.in-Some-take_layer.lower c.in-Some-take_trust.trust, c.take_trust.new.words)) c.in-Some-take_trust.ensures.found (c.in-Some-take_layer.ensures.left ∙ ap later_words c.in-Some.ensures.left)
    (ap (λ (left : List (List ℕ)). Some (trust_is c.in-Some.layer c.in-Some-take_layer.lower c.in-Some-take_trust.trust, left)) (sym (c.in-Some-take_trust.ensures.left ∙ ap later_words (c.in-Some-take_layer.ensures.left ∙ ap later_words c.in-Some.ensures.left))))))
