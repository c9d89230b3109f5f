use Rattle.std.proofs.Common.{◌<◌, length, arith, sym, ◌∙◌}
use Rattle.std.proofs.lemmas.Bool.{eqb-true, eqb-false}
use Rattle.std.proofs.lemmas.List.{nil_from_length}
use Rattle.mb_script.proofs.EventLines.{none_passed, skip_line, pass_line, found_line, no_line}
use Rattle.mb_script.proofs.script.line_of.Goals as goal

pub loop-rest-init : goal.loop-rest-init
loop-rest-init c = none_passed c.args.text.now c.args.index

pub loop-rest-preserved-then-is_skipped : goal.loop-rest-preserved-then-is_skipped
loop-rest-preserved-then-is_skipped c =
    let some : 0 < length c.loop-rest.rest.now = omega (arith, eqb-false _ _ (sym c.is_empty.ensures ∙ c.loop-rest-test.true)) in
    skip_line c.args.text.now c.loop-rest.rest.now c.split_line.result.0.now c.split_line.result.1.now c.loop-rest.passed c.loop-rest.number c.args.index
    c.loop-rest.invariant c.split_line.ensures some (sym c.is_skipped.ensures ∙ c.if-is_skipped.true)

pub returns-then-passed-index : goal.returns-then-passed-index
returns-then-passed-index c =
    let some : 0 < length c.loop-rest.rest.now = omega (arith, eqb-false _ _ (sym c.is_empty.ensures ∙ c.loop-rest-test.true)) in
    found_line c.args.text.now c.loop-rest.rest.now c.split_line.result.0.now c.split_line.result.1.now c.loop-rest.passed c.loop-rest.number c.args.index
    c.loop-rest.invariant c.split_line.ensures some (sym c.is_skipped.ensures ∙ c.if-is_skipped.false) c.if-passed-index.true

pub loop-rest-preserved : goal.loop-rest-preserved
loop-rest-preserved c =
    let some : 0 < length c.loop-rest.rest.now = omega (arith, eqb-false _ _ (sym c.is_empty.ensures ∙ c.loop-rest-test.true)) in
    pass_line c.args.text.now c.loop-rest.rest.now c.split_line.result.0.now c.split_line.result.1.now c.loop-rest.passed c.loop-rest.number c.args.index
    c.loop-rest.invariant c.split_line.ensures some (sym c.is_skipped.ensures ∙ c.if-is_skipped.false) c.if-passed-index.false

pub returns : goal.returns
returns c =
    no_line c.args.text.now c.loop-rest.rest.now c.loop-rest.passed c.loop-rest.number c.args.index c.loop-rest.invariant
    (nil_from_length c.loop-rest.rest.now (eqb-true _ _ (sym c.is_empty.ensures ∙ c.loop-rest-test.false)))
