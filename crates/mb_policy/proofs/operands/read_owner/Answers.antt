use Rattle.std.proofs.Common.{ℕ, List, Some, None, refl, sym, ap, ◌∙◌}
use Rattle.mb_policy.specs.Policies.{owner_in_set}
use Rattle.mb_policy.specs.Reading.{later_words, layer_first, reads_owner, set_first}
use Rattle.mb_policy.specs.Meanings.{items_of, set_at}
use Rattle.mb_policy.proofs.Leaves.{none_here, some_here}
use Rattle.mb_policy.proofs.operands.read_owner.Goals as goal

pub returns-in_default : goal.returns-in_default
unfolding reads_owner
returns-in_default c =
    none_here (layer_first 3) c.args.words.now c.args.words.now _ c.in_default.ensures.found refl

pub returns-in_default-take_set : goal.returns-in_default-take_set
unfolding reads_owner
returns-in_default-take_set c =
    some_here (layer_first 3) c.args.words.now c.args.words.now c.in-Some.layer _ None c.in-Some.ensures.found refl
    (none_here (set_first (items_of c.args.before.now)) c.take_layer.new.words (later_words c.args.words.now) _ c.in_default-take_set.ensures.found c.in-Some.ensures.left)

pub returns : goal.returns
unfolding reads_owner
returns c =
    some_here (layer_first 3) c.args.words.now c.args.words.now c.in-Some.layer _ (Some (owner_in_set c.in-Some.layer (set_at (items_of c.args.before.now) c.in-Some-take_set.set), c.take_set.new.words)) c.in-Some.ensures.found refl
    (some_here (set_first (items_of c.args.before.now)) c.take_layer.new.words (later_words c.args.words.now) (set_at (items_of c.args.before.now) c.in-Some-take_set.set) _ (Some (owner_in_set c.in-Some.layer (set_at (items_of c.args.before.now) c.in-Some-take_set.set), c.take_set.new.words)) c.in-Some-take_set.ensures.found c.in-Some.ensures.left
    (ap (λ (left : List (List ℕ)). Some (owner_in_set c.in-Some.layer (set_at (items_of c.args.before.now) c.in-Some-take_set.set), left)) (sym (c.in-Some-take_set.ensures.left ∙ ap later_words c.in-Some.ensures.left))))
