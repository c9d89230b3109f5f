use Rattle.std.proofs.Common.{ℕ, List, Some, refl, sym, ap}
use Rattle.mb_policy.specs.Policies.{reliable_at}
use Rattle.mb_policy.specs.Reading.{layer_first, reads_reliable}
use Rattle.mb_policy.proofs.Leaves.{none_here, some_here}
use Rattle.mb_policy.proofs.operands.read_reliable.Goals as goal

pub returns-in_default : goal.returns-in_default
unfolding reads_reliable
returns-in_default c =
    λ items.
    none_here (layer_first 3) c.args.words.now c.args.words.now _ c.in_default.ensures.found refl

pub returns : goal.returns
unfolding reads_reliable
returns c =
    λ items.
    some_here (layer_first 3) c.args.words.now c.args.words.now c.in-Some.layer _ (Some (reliable_at c.in-Some.layer, c.take_layer.new.words)) c.in-Some.ensures.found refl
    (ap (λ (left : List (List ℕ)). Some (reliable_at c.in-Some.layer, left)) (sym c.in-Some.ensures.left))
