use Rattle.std.proofs.Common.{◌<◌, List, length, arith, sym, subst, ◌∙◌}
use Rattle.mb_model.specs.declared.region.Secret.{Secret}
use Rattle.mb_appvm.specs.SecretTexts.{AddsSecret}
use Rattle.std.proofs.lemmas.Bool.{eqb-true, eqb-false}
use Rattle.std.proofs.lemmas.List.{nil_from_length}
use Rattle.mb_appvm.proofs.SecretReading.{none_read, skip_line, say_line, wrong_line, all_read}
use Rattle.mb_appvm.proofs.secret_texts.read_secrets.Goals as goal

pub loop-rest-init : goal.loop-rest-init
loop-rest-init c = rw c.new-secrets.ensures (none_read c.args.text.now)

pub loop-rest-preserved-then-is_skipped : goal.loop-rest-preserved-then-is_skipped
loop-rest-preserved-then-is_skipped c =
    let some : 0 < length c.loop-rest.rest.now = omega (arith, eqb-false _ _ (sym c.is_empty.ensures ∙ c.loop-rest-test.true)) in
    skip_line c.args.text.now c.loop-rest.rest.now c.split_line.result.0.now c.split_line.result.1.now c.loop-rest.secrets c.loop-rest.number
    c.loop-rest.invariant c.split_line.ensures some (sym c.is_skipped.ensures ∙ c.if-is_skipped.true)

pub loop-rest-preserved : goal.loop-rest-preserved
loop-rest-preserved c =
    let some : 0 < length c.loop-rest.rest.now = omega (arith, eqb-false _ _ (sym c.is_empty.ensures ∙ c.loop-rest-test.true)) in
    say_line c.args.text.now c.loop-rest.rest.now c.split_line.result.0.now c.split_line.result.1.now c.loop-rest.secrets c.push.new.self c.in-Ok.secret
    c.loop-rest.number c.loop-rest.invariant c.split_line.ensures some (sym c.is_skipped.ensures ∙ c.if-is_skipped.false)
    (rw c.as_slice.ensures at c.in-Ok.ensures) c.in_ok-push-in-Ok.ensures.ok

pub returns-in-Err-Form : goal.returns-in-Err-Form
returns-in-Err-Form c =
    let some : 0 < length c.loop-rest.rest.now = omega (arith, eqb-false _ _ (sym c.is_empty.ensures ∙ c.loop-rest-test.true)) in
    wrong_line c.args.text.now c.loop-rest.rest.now c.split_line.result.0.now c.split_line.result.1.now c.loop-rest.secrets c.loop-rest.number
    c.loop-rest.invariant c.split_line.ensures some (sym c.is_skipped.ensures ∙ c.if-is_skipped.false)
    (subst (λ (x : List Secret). (s : Secret) → AddsSecret x c.split_line.result.0.now s → ⊥) c.as_slice.ensures (rw c.in-Err-Form.field-0-is at c.in-Err-Form.ensures))

pub returns : goal.returns
returns c =
    all_read c.args.text.now c.loop-rest.rest.now c.loop-rest.secrets c.loop-rest.number c.loop-rest.invariant
    (nil_from_length c.loop-rest.rest.now (eqb-true _ _ (sym c.is_empty.ensures ∙ c.loop-rest-test.false)))
