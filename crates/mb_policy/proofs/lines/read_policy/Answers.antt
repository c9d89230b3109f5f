use Rattle.std.proofs.Common.{List, ◌<◌, length, arith, sym, ◌∙◌, ap, subst}
use Rattle.std.proofs.lemmas.Bool.{eqb-true, eqb-false}
use Rattle.std.proofs.lemmas.List.{nil_from_length}
use Rattle.mb_policy.specs.declared.policy.Line.{Line}
use Rattle.mb_policy.specs.Policies.{PolicyItem, SaysItem}
use Rattle.mb_policy.specs.Meanings.{line_meant, items_of}
use Rattle.mb_policy.proofs.PolicyReading.{skip_line, full_line, say_line, wrong_line, all_read}
use Rattle.mb_policy.proofs.lines.read_policy.Goals as goal

pub loop-rest-preserved-then-is_skipped : goal.loop-rest-preserved-then-is_skipped
loop-rest-preserved-then-is_skipped c =
    let some : 0 < length c.loop-rest.rest.now = omega (arith, eqb-false _ _ (sym c.is_empty.ensures ∙ c.loop-rest-test.true)) in
    skip_line c.args.text.now c.loop-rest.rest.now c.split_line.result.0.now c.split_line.result.1.now (items_of c.loop-rest.lines) c.loop-rest.number
    c.loop-rest.invariant c.split_line.ensures some (sym c.is_skipped.ensures ∙ c.if-is_skipped.true)

pub returns-then-is_full : goal.returns-then-is_full
returns-then-is_full c =
    let some : 0 < length c.loop-rest.rest.now = omega (arith, eqb-false _ _ (sym c.is_empty.ensures ∙ c.loop-rest-test.true)) in
    full_line c.args.text.now c.loop-rest.rest.now c.split_line.result.0.now c.split_line.result.1.now c.loop-rest.lines c.loop-rest.number
    c.loop-rest.invariant c.split_line.ensures some (sym c.is_skipped.ensures ∙ c.if-is_skipped.false)
    (sym (ap length c.as_slice.ensures) ∙ c.if-is_full.true)

pub loop-rest-preserved : goal.loop-rest-preserved
loop-rest-preserved c =
    let some : 0 < length c.loop-rest.rest.now = omega (arith, eqb-false _ _ (sym c.is_empty.ensures ∙ c.loop-rest-test.true)) in
    say_line c.args.text.now c.loop-rest.rest.now c.split_line.result.0.now c.split_line.result.1.now c.loop-rest.lines c.push.new.self c.in-Ok.line c.loop-rest.number
    c.loop-rest.invariant c.split_line.ensures some (sym c.is_skipped.ensures ∙ c.if-is_skipped.false)
    (λ full. c.if-is_full.false (ap length c.as_slice.ensures ∙ full))
    (subst (λ (x : List Line). SaysItem (items_of x) c.split_line.result.0.now (line_meant (items_of x) c.in-Ok.line)) c.as_slice-in-loop-rest.ensures c.in-Ok.ensures) c.in_ok-push-in-Ok.ensures.ok

pub returns-in-Err-Form : goal.returns-in-Err-Form
returns-in-Err-Form c =
    let some : 0 < length c.loop-rest.rest.now = omega (arith, eqb-false _ _ (sym c.is_empty.ensures ∙ c.loop-rest-test.true)) in
    wrong_line c.args.text.now c.loop-rest.rest.now c.split_line.result.0.now c.split_line.result.1.now (items_of c.loop-rest.lines) c.loop-rest.number
    c.loop-rest.invariant c.split_line.ensures some (sym c.is_skipped.ensures ∙ c.if-is_skipped.false)
    (subst (λ (x : List Line). (item : PolicyItem) → SaysItem (items_of x) c.split_line.result.0.now item → ⊥) c.as_slice-in-loop-rest.ensures (rw c.in-Err-Form.field-0-is at c.in-Err-Form.ensures))

pub returns : goal.returns
returns c =
    all_read c.args.text.now c.loop-rest.rest.now (items_of c.loop-rest.lines) c.loop-rest.number c.loop-rest.invariant
    (nil_from_length c.loop-rest.rest.now (eqb-true _ _ (sym c.is_empty.ensures ∙ c.loop-rest-test.false)))
