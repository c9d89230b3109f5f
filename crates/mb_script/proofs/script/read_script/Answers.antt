use Rattle.std.proofs.Common.{◌<◌, length, arith, sym, ◌∙◌, ap}
use Rattle.std.proofs.lemmas.Bool.{eqb-true, eqb-false}
use Rattle.std.proofs.lemmas.List.{nil_from_length}
use Rattle.mb_script.proofs.ScriptReading.{skip_line, full_line, say_line, wrong_line, all_read}
use Rattle.mb_script.proofs.script.read_script.Goals as goal

pub loop-rest-preserved-then-is_skipped : goal.loop-rest-preserved-then-is_skipped
loop-rest-preserved-then-is_skipped c =
    let some : 0 < length c.loop-rest.rest.now = omega (arith, eqb-false _ _ (sym c.is_empty.ensures ∙ c.loop-rest-test.true)) in
    skip_line c.args.text.now c.loop-rest.rest.now c.split_line.result.0.now c.split_line.result.1.now c.loop-rest.events c.loop-rest.number
    c.loop-rest.invariant c.split_line.ensures some (sym c.is_skipped.ensures ∙ c.if-is_skipped.true)

pub returns-then-is_full : goal.returns-then-is_full
returns-then-is_full c =
    let some : 0 < length c.loop-rest.rest.now = omega (arith, eqb-false _ _ (sym c.is_empty.ensures ∙ c.loop-rest-test.true)) in
    full_line c.args.text.now c.loop-rest.rest.now c.split_line.result.0.now c.split_line.result.1.now c.loop-rest.events c.loop-rest.number
    c.loop-rest.invariant c.split_line.ensures some (sym c.is_skipped.ensures ∙ c.if-is_skipped.false)
    (sym (ap length c.as_slice.ensures) ∙ c.if-is_full.true)

pub loop-rest-preserved : goal.loop-rest-preserved
loop-rest-preserved c =
    let some : 0 < length c.loop-rest.rest.now = omega (arith, eqb-false _ _ (sym c.is_empty.ensures ∙ c.loop-rest-test.true)) in
    say_line c.args.text.now c.loop-rest.rest.now c.split_line.result.0.now c.split_line.result.1.now c.loop-rest.events c.push.new.self c.in-Ok.event c.loop-rest.number
    c.loop-rest.invariant c.split_line.ensures some (sym c.is_skipped.ensures ∙ c.if-is_skipped.false)
    (λ full. c.if-is_full.false (ap length c.as_slice.ensures ∙ full)) c.in-Ok.ensures c.in_ok-push-in-Ok.ensures.ok

pub returns-in-Err-Form : goal.returns-in-Err-Form
returns-in-Err-Form c =
    let some : 0 < length c.loop-rest.rest.now = omega (arith, eqb-false _ _ (sym c.is_empty.ensures ∙ c.loop-rest-test.true)) in
    wrong_line c.args.text.now c.loop-rest.rest.now c.split_line.result.0.now c.split_line.result.1.now c.loop-rest.events c.loop-rest.number
    c.loop-rest.invariant c.split_line.ensures some (sym c.is_skipped.ensures ∙ c.if-is_skipped.false)
    (rw c.in-Err-Form.field-0-is at c.in-Err-Form.ensures)

pub returns : goal.returns
returns c =
    all_read c.args.text.now c.loop-rest.rest.now c.loop-rest.events c.loop-rest.number c.loop-rest.invariant
    (nil_from_length c.loop-rest.rest.now (eqb-true _ _ (sym c.is_empty.ensures ∙ c.loop-rest-test.false)))
