use Rattle.std.proofs.Common.{sym, ◌∙◌, arith}
use Rattle.std.proofs.lemmas.Bool.{eqb-true, eqb-false}
use Rattle.std.proofs.lemmas.List.{nil_from_length}
use Rattle.mb_appvm.proofs.Tables.{cover_more, cover_all}
use Rattle.mb_appvm.proofs.table.Labels.of_text.Goals as goal

pub loop-rest-preserved : goal.loop-rest-preserved
loop-rest-preserved c =
    cover_more c.args.text.now c.loop-rest.rest.now c.split_line.result.0.now c.split_line.result.1.now c.loop-rest.labels c.add_text.new.self c.loop-rest.invariant c.split_line.ensures
    (omega (arith, eqb-false _ _ (sym c.is_empty.ensures ∙ c.loop-rest-test.true))) c.in_ok-add_text.ensures

pub returns : goal.returns
returns c =
    cover_all c.args.text.now c.loop-rest.rest.now c.loop-rest.labels c.loop-rest.invariant
    (nil_from_length c.loop-rest.rest.now (eqb-true _ _ (sym c.is_empty.ensures ∙ c.loop-rest-test.false)))
