use Rattle.mb_officer.proofs.Spelled.{drafts_are_spelled}
use Rattle.std.proofs.Common.{◌<◌, sym, length, ◌∙◌, arith, refl}
use Rattle.std.proofs.lemmas.Bool.{eqb-true, eqb-false}
use Rattle.std.proofs.lemmas.List.{nil_from_length}
use Rattle.mb_words.proofs.NextLines.{shorter}
use Rattle.mb_officer.proofs.Lines.{form_tells}
use Rattle.mb_officer.proofs.Drafts.{HasRead-step, HasRead-bad, HasRead-short, HasRead-end}
use Rattle.mb_officer.proofs.draft.read_draft.Goals as goal

pub returns-in-Err-Form-clause-read : goal.returns-in-Err-Form-clause-read
returns-in-Err-Form-clause-read c =
    HasRead-bad c.args.text.now c.loop-rest.rest.now c.split_line.result.0.now c.split_line.result.1.now c.loop-rest.number c.loop-rest.said c.loop-rest.targets
    c.loop-rest.invariant.read c.split_line.ensures (omega (arith, eqb-false _ _ (sym c.is_empty.ensures ∙ c.loop-rest-test.true)))
    (form_tells c.loop-rest.said c.loop-rest.targets _ c.split_line.result.0.now c.in-Err-Form.field-0 c.in-Err-Form.field-0-is c.in-Err-Form.ensures)

pub loop-rest-preserved : goal.loop-rest-preserved
loop-rest-preserved c =
    let some : 0 < length c.loop-rest.rest.now = omega (arith, eqb-false _ _ (sym c.is_empty.ensures ∙ c.loop-rest-test.true)) in record {
      room = omega (arith, c.loop-rest.invariant.room, shorter c.loop-rest.rest.now c.split_line.result.0.now c.split_line.result.1.now c.split_line.ensures some);
      read =
          HasRead-step c.args.text.now c.loop-rest.rest.now c.split_line.result.0.now c.split_line.result.1.now c.loop-rest.number _ c.loop-rest.said c.in-Ok.next
          c.loop-rest.targets c.read_line.new.targets c.loop-rest.invariant.read c.split_line.ensures some c.in-Ok.ensures refl;
    }

pub returns-in-None-clause-read : goal.returns-in-None-clause-read
returns-in-None-clause-read c =
    let none = nil_from_length c.loop-rest.rest.now (eqb-true _ _ (sym c.is_empty.ensures ∙ c.loop-rest-test.false)) in
    HasRead-short c.args.text.now c.loop-rest.rest.now c.loop-rest.number c.loop-rest.said c.loop-rest.targets c.loop-rest.invariant.read none c.in-None.ensures

pub returns-in-Some-clause-spelled : goal.returns-in-Some-clause-spelled
returns-in-Some-clause-spelled c =
    let none = nil_from_length c.loop-rest.rest.now (eqb-true _ _ (sym c.is_empty.ensures ∙ c.loop-rest-test.false)) in
    drafts_are_spelled c.args.text.now c.in-Some.order
    (HasRead-end c.args.text.now c.loop-rest.rest.now c.loop-rest.number c.loop-rest.said c.loop-rest.targets c.in-Some.order c.loop-rest.invariant.read none c.in-Some.ensures)
