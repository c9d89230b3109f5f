use Rattle.std.proofs.Common.{◌∷◌, [], sym, ◌∙◌, arith}
use Rattle.std.proofs.lemmas.Bool.{eqb-true, eqb-false}
use Rattle.std.proofs.lemmas.List.{nil_from_length}
use Rattle.mb_model.specs.chains.OrderLines.{IsOrderLine}
use Rattle.mb_model_lemmas.proofs.OrderLineLemmas.{order_one}
use Rattle.mb_words.proofs.OneLine.{no_line, first_wrong, second_wrong, none_found}
use Rattle.mb_officer.proofs.OrderTexts.{order_alone}
use Rattle.mb_officer.proofs.order_line.read_order_line.Goals as goal

pub returns-then-is_empty-clause-read : goal.returns-then-is_empty-clause-read
returns-then-is_empty-clause-read c = no_line order_alone c.args.text.now (nil_from_length c.args.text.now (eqb-true _ _ (sym c.is_empty.ensures ∙ c.if-is_empty.true)))

pub returns-else-is_empty-2-clause-read : goal.returns-else-is_empty-2-clause-read
returns-else-is_empty-2-clause-read c =
    second_wrong {Grammar = IsOrderLine} order_one c.args.text.now c.split_line.result.0.now c.split_line.result.1.now c.in-Ok.order c.split_line.ensures
    (omega (arith, eqb-false _ _ (sym c.is_empty.ensures ∙ c.if-is_empty.false)))
    (omega (arith, eqb-false _ _ (sym c.is_empty-in-Ok.ensures ∙ c.if-is_empty-2.false))) c.in-Ok.ensures

pub returns-in-Err-Form-clause-read : goal.returns-in-Err-Form-clause-read
returns-in-Err-Form-clause-read c =
    first_wrong order_alone c.args.text.now c.split_line.result.0.now c.split_line.result.1.now c.split_line.ensures
    (omega (arith, eqb-false _ _ (sym c.is_empty.ensures ∙ c.if-is_empty.false)))
    (none_found (IsOrderLine (c.split_line.result.0.now ∷ [])) c.in-Err-Form.field-0 c.in-Err-Form.field-0-is c.in-Err-Form.ensures)
