use Rattle.mb_appvm.proofs.Traces.{one_value, all_values}
use Rattle.mb_appvm.proofs.tracing.put_values.Goals as goal

pub loop-value-preserved : goal.loop-value-preserved
loop-value-preserved c =
    one_value c.args.values.now c.loop-value.value-index c.args.out.now.items c.loop-value.out.items c.put_numbered.new.out.items c.loop-value-test.true
    c.loop-value.invariant c.in_ok-put_numbered.ensures.items

pub returns : goal.returns
returns c = all_values c.args.values.now c.loop-value.value-index c.args.out.now.items c.loop-value.out.items c.loop-value-test.false c.loop-value.invariant
