use Rattle.std.proofs.Common.{◌≡◌, ◌-◌, ◌*◌, ℕ, List, [], ◌∷◌, ◌++◌, ap, subst, ◌∙◌}
use Rattle.std.proofs.lemmas.Result.{on_ok_weaker}
use Rattle.mb_model.specs.declared.order.Order.{Order}
use Rattle.mb_model.specs.outside.Texts.{line_with_lf}
use Rattle.mb_model.specs.chains.OrderLines.{order_line}
use Rattle.mb_model_commands.specs.Workload.{round_plan, signed_plan}
use Rattle.mb_generate.specs.Drawing.{round_of}
use Rattle.mb_generate.specs.Orders.{AreOfficers}
use Rattle.mb_generate.specs.Scripts.{puts_text, sign_line}
use Rattle.mb_generate.proofs.Scripting.{lines_put}
use Rattle.mb_generate.proofs.script.put_round.Goals as goal

pub returns-clause-officers : goal.returns-clause-officers
returns-clause-officers g c =
    on_ok_weaker c.put_statement.result
    (λ last draws before are counted. subst (λ (code : List ℕ). AreOfficers draws (before ++ round_plan c.args.number code ∷ []) c.round_order.new.officers) c.as_slice.ensures (c.in_ok-order.ensures.signs draws before are counted).1)
    c.put_statement.ensures

pub returns-clause-text : goal.returns-clause-text
returns-clause-text g c =
    on_ok_weaker c.put_statement.result
    (λ last draws before are counted.
    let order : c.in_ok-order.order ≡ signed_plan draws before (round_plan c.args.number c.args.round.now.code) =
    (c.in_ok-order.ensures.signs draws before are counted).0 ∙ ap (λ (code : List ℕ). signed_plan draws before (round_plan c.args.number code)) c.as_slice.ensures in
    lines_put (c.args.number - 1) (signed_plan draws before (round_plan c.args.number c.args.round.now.code)) (round_of c.args.round.now) c.args.script.now.items
    c.extend_from_slice.new.self.items c.extend_from_slice-2.new.self.items c.extend_from_slice-3.new.self.items c.put_secrets.new.script.items c.put_statement.new.script.items
    c.in_ok-extend_from_slice.ensures.items
    (c.in_ok-extend_from_slice-2.ensures.items
    ∙ ap (λ (line : List ℕ). c.extend_from_slice.new.self.items ++ line) (c.as_slice-2.ensures.value ∙ c.in_ok-line.ensures ∙ ap (λ (o : Order). line_with_lf (order_line o)) order))
    c.in_ok-extend_from_slice-3.ensures.items
    (c.in_ok-put_secrets.ensures ∙ ap (λ (values : List (List ℕ)). c.extend_from_slice-3.new.self.items ++ puts_text (4 * (c.args.number - 1)) values) c.as_slice-3.ensures)
    (last ∙ ap (λ (message : List ℕ). c.put_secrets.new.script.items ++ line_with_lf (sign_line message)) c.as_slice-4.ensures))
    c.put_statement.ensures
