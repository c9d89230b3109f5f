use Rattle.std.proofs.Common.{ℕ, List, Some, refl, sym, ap}
use Rattle.mb_policy.specs.Policies.{kind_is}
use Rattle.mb_policy.specs.Reading.{kind_first, reads_kind}
use Rattle.mb_policy.proofs.Leaves.{none_here, some_here}
use Rattle.mb_policy.proofs.operands.read_kind.Goals as goal

pub returns-in_default : goal.returns-in_default
unfolding reads_kind
returns-in_default c =
    λ items.
    none_here kind_first c.args.words.now c.args.words.now _ c.in_default.ensures.found refl

pub returns : goal.returns
unfolding reads_kind
returns c =
    λ items.
    some_here kind_first c.args.words.now c.args.words.now c.in-Some.kind _ (Some (kind_is c.in-Some.kind, c.take_kind.new.words)) c.in-Some.ensures.found refl
    (ap (λ (left : List (List ℕ)). Some (kind_is c.in-Some.kind, left)) (sym c.in-Some.ensures.left))
