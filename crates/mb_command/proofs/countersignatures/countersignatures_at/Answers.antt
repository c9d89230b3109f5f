use Rattle.std.proofs.Common.{◌≡◌, ◌-◌, ◌+◌, arith}
use Rattle.std.proofs.lemmas.Result.{err_from_is_err_and}
use Rattle.std.specs.Int.{w8}
use Rattle.mb_format.specs.Combinators.{between}
use Rattle.mb_model.specs.records.OrderFormat.{countersignature_limit, countersignature_format, climb_after, countersignatures_format}
use Rattle.mb_model.specs.owners.Rules.{kind_of}
use Rattle.mb_bytes.proofs.Reading.{led_ok, reading_goes_on, reading_ends, list_fails_at}
use Rattle.mb_bytes.specs.Ends.{end_at}
use Rattle.mb_command.proofs.countersignatures.countersignatures_at.Goals as goal

pub returns : goal.returns
unfolding countersignatures_format
returns c =
    let most = rw c.kind_of.ensures at c.countersignature_limit-most.ensures in
    led_ok (rw most at c.in_ok-count.ensures.reads) (reading_ends c.loop-i-test.false c.loop-i.invariant.1)

pub returns-in_err-countersignature : goal.returns-in_err-countersignature
unfolding countersignatures_format
returns-in_err-countersignature c =
    let p = err_from_is_err_and c.from_residual-in_err-countersignature.result c.from_residual-in_err-countersignature.ensures.1 in
    let most = rw c.kind_of.ensures at c.countersignature_limit-most.ensures in
    let at = end_at c.in_err-countersignature.field-0.0 in
    let body = c.args.body.now in
    rw (p.1, p.2) (list_fails_at (between w8 0 (countersignature_limit (kind_of body.act) body.layer)) countersignature_format climb_after (λ n. record { below = body.layer; left = n }) c.countersignature_at.new.cursor at (rw most at c.in_ok-count.ensures.reads) c.loop-i-test.true c.loop-i.invariant.1 c.in_err-countersignature.ensures.reads)

pub loop-i-preserved : goal.loop-i-preserved
loop-i-preserved c =
    let left : c.in_ok-count.count - c.loop-i.i - 1 ≡ c.in_ok-count.count - (c.loop-i.i + 1) = omega arith in
    let more = reading_goes_on c.in_ok-countersignature.countersignature c.loop-i-test.true c.loop-i.invariant.1 c.in_ok-countersignature.ensures.reads in
    (omega (arith, c.in_ok-countersignature.ensures.layer, c.loop-i-test.true), rw c.in_ok-push.ensures.ok (rw left at more))
