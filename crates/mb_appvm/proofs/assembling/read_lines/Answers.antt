use Rattle.std.proofs.Common.{◌<◌, length, arith, sym, ◌∙◌}
use Rattle.std.proofs.lemmas.Bool.{eqb-false}
use Rattle.mb_appvm.proofs.ReadLines.{read_one, read_stop}
use Rattle.mb_appvm.proofs.assembling.read_lines.Goals as goal

pub returns-in-None : goal.returns-in-None
returns-in-None c =
    let some : 0 < length c.loop-line.rest.now = omega (arith, eqb-false _ _ (sym c.is_empty.ensures ∙ c.loop-line-test.true)) in
    read_stop c.args.text.now c.loop-line.rest.now c.split_line.result.0.now c.split_line.result.1.now c.loop-line.said.items c.loop-line.invariant c.split_line.ensures some
    c.in-None.ensures

pub loop-line-preserved : goal.loop-line-preserved
loop-line-preserved c =
    let some : 0 < length c.loop-line.rest.now = omega (arith, eqb-false _ _ (sym c.is_empty.ensures ∙ c.loop-line-test.true)) in
    read_one c.args.text.now c.loop-line.rest.now c.split_line.result.0.now c.split_line.result.1.now c.loop-line.said.items c.push.new.self.items c.in-Some.line
    c.loop-line.invariant c.split_line.ensures some c.in-Some.ensures c.in_ok-push-in-Some.ensures.items
