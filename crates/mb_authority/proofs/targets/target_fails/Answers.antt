use Rattle.std.proofs.Common.{◌≡◌, true, false, length, ap, refl, arith}
use Rattle.mb_model.specs.owners.Rules.{TargetHolds}
use Rattle.mb_authority.proofs.Firsts.{found, passed, ended, few_targets}
use Rattle.mb_authority.proofs.targets.target_fails.Goals as goal

pub overflow_cast-result : goal.overflow_cast-result
overflow_cast-result c =
    omega (arith, few_targets c.args.order.now c.requires, ap length c.as_slice-target-items.ensures)

pub returns-then-not-holds : goal.returns-then-not-holds
returns-then-not-holds c = (
  _,
  found
      (λ t. TargetHolds c.args.view.now.serial c.args.view.now.layers c.args.view.now.length t)
      c.as_slice-target-items.result.now
      _
      c.loop-i.i
      _
      _
      c.as_slice-target-items.ensures
      c.loop-i-test.true
      refl
      c.loop-i.invariant
      (λ h. let e : false ≡ true = c.if-not-holds.ensures.1 h in cc),
)

pub loop-i-preserved : goal.loop-i-preserved
loop-i-preserved c =
    passed
    (λ t. TargetHolds c.args.view.now.serial c.args.view.now.layers c.args.view.now.length t)
    c.as_slice-target-items.result.now
    c.loop-i.i
    _
    _
    c.loop-i-test.true
    refl
    c.loop-i.invariant
    (c.if-not-holds.ensures.0 refl)

pub returns : goal.returns
returns c =
    ended
    (λ t. TargetHolds c.args.view.now.serial c.args.view.now.layers c.args.view.now.length t)
    c.as_slice-target-items.result.now
    _
    c.loop-i.i
    c.as_slice-target-items.ensures
    c.loop-i-test.false
    c.loop-i.invariant
