use Rattle.std.proofs.Common.{◌≡◌, true, false, refl}
use Rattle.mb_authority.proofs.Firsts.{found, passed, ended}
use Rattle.mb_orders.specs.Judging.{IsCountersignedOver}
use Rattle.mb_orders.proofs.signatures.countersignature_fails.Goals as goal

pub returns-then-not-is_countersigned : goal.returns-then-not-is_countersigned
returns-then-not-is_countersigned c = (
  c.loop-by.by-index,
  c.by-item.result,
  refl,
  found
      (IsCountersignedOver c.args.layers.now c.args.body.now)
      c.as_slice-by-items.result.now
      _
      c.loop-by.by-index
      c.by-item.result
      _
      c.as_slice-by-items.ensures
      c.loop-by-test.true
      c.by-item.is
      c.loop-by.invariant
      (λ h. let e : false ≡ true = c.if-not-is_countersigned.ensures.1 h in cc),
)

pub loop-by-preserved : goal.loop-by-preserved
loop-by-preserved c =
    passed
    (IsCountersignedOver c.args.layers.now c.args.body.now)
    c.as_slice-by-items.result.now
    c.loop-by.by-index
    c.by-item.result
    _
    c.loop-by-test.true
    c.by-item.is
    c.loop-by.invariant
    (c.if-not-is_countersigned.ensures.0 refl)

pub returns : goal.returns
returns c =
    ended
    (IsCountersignedOver c.args.layers.now c.args.body.now)
    c.as_slice-by-items.result.now
    _
    c.loop-by.by-index
    c.as_slice-by-items.ensures
    c.loop-by-test.false
    c.loop-by.invariant
