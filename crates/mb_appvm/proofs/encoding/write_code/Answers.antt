use Rattle.std.proofs.Common.{◌<◌, List, length, get_or, ap, ◌∙◌, arith}
use Rattle.mb_appvm.specs.declared.lines.Said.{Said}
use Rattle.mb_appvm.proofs.Codes.{one_line}
use Rattle.mb_appvm.proofs.encoding.write_code.Goals as goal

pub loop-line-preserved : goal.loop-line-preserved
loop-line-preserved c =
    let s = c.line-item.result in
    let within : c.loop-line.line-index < length c.args.lines.now = omega (arith, c.loop-line-test.true, ap length c.as_slice-said.ensures) in
    let is = c.line-item.is ∙ ap (λ (x : List Said). get_or x c.loop-line.line-index s) c.as_slice-said.ensures in
    let puts = c.in_ok-put_line.ensures in
    one_line c.args.lines.now c.loop-line.line-index s s puts.0 c.loop-line.code c.put_line.new.out within is c.loop-line.invariant puts.1 puts.2
