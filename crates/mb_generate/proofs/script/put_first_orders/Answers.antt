use Rattle.std.proofs.Common.{ap, ◌∙◌, arith}
use Rattle.mb_model.specs.declared.order.KeyKind.TheVariants as kinds
use Rattle.std.proofs.lemmas.Result.{on_ok_weaker}
use Rattle.mb_model.specs.declared.order.Payload.{Payload}
use Rattle.mb_model.specs.declared.order.Act.TheVariants as act
use Rattle.mb_model_commands.specs.Workload.{plan_payload}
use Rattle.mb_generate.specs.Orders.{targeted}
use Rattle.mb_generate.proofs.Scripting.{first_put}
use Rattle.mb_generate.specs.Drawing.{draws_of}
use Rattle.mb_generate.proofs.Planning.{can_give, can_replace, can_make_key}
use Rattle.mb_generate.proofs.script.put_first_orders.Goals as goal

pub targeted-requires : goal.targeted-requires
targeted-requires g c =
    can_give 2 (draws_of c.args.drawn.now) 2 c.args.officers.now.two c.establish_of-two.result (omega arith) (omega arith) c.requires.officers.two c.establish_of-two.ensures.act

pub targeted-requires-2 : goal.targeted-requires-2
targeted-requires-2 g c =
    can_give 3 (draws_of c.args.drawn.now) 3 c.args.officers.now.three c.establish_of-three.result (omega arith) (omega arith) c.requires.officers.three c.establish_of-three.ensures.act

pub targeted-requires-3 : goal.targeted-requires-3
targeted-requires-3 g c =
    can_replace 2 1 c.args.drawn.now.code_two c.in_ok-code_two.code_two (c.in_ok-code_two.ensures ∙ ap (plan_payload 1) c.as_slice.ensures) (omega arith) (omega arith) (omega arith) c.requires.fit.two

pub targeted-requires-4 : goal.targeted-requires-4
targeted-requires-4 g c =
    can_replace 3 1 c.args.drawn.now.code_three c.in_ok-code_three.code_three (c.in_ok-code_three.ensures ∙ ap (plan_payload 1) c.as_slice-2.ensures) (omega arith) (omega arith) (omega arith) c.requires.fit.three

pub targeted-requires-5 : goal.targeted-requires-5
targeted-requires-5 g c = can_make_key 3 kinds.Epoch (omega arith) (omega arith)

pub returns-clause-text : goal.returns-clause-text
returns-clause-text g c =
    on_ok_weaker c.put_order-5.result
    (λ last. first_put (draws_of c.args.drawn.now) c.args.script.now.items c.put_order.new.script.items c.put_order-2.new.script.items c.put_order-3.new.script.items c.put_order-4.new.script.items c.put_order-5.new.script.items
    c.args.officers.now.one c.args.officers.now.two c.args.officers.now.three c.put_order.new.officer c.put_order-2.new.officer
    c.in_ok-targeted.field-0 c.in_ok-targeted-2.field-0 c.in_ok-two.two c.in_ok-three.three c.in_ok-targeted-3.field-0
    c.requires.officers.one c.requires.officers.two c.requires.officers.three c.in_ok-put_order.ensures.used c.in_ok-put_order-2.ensures.used
    (c.in_ok-targeted.ensures.order ∙ ap (targeted 2 1) c.establish_of-two.ensures.act) (c.in_ok-targeted-2.ensures.order ∙ ap (targeted 3 2) c.establish_of-three.ensures.act)
    (c.in_ok-two.ensures.order ∙ ap (λ (p : Payload). targeted 2 3 (act.Emergency p)) (c.in_ok-code_two.ensures ∙ ap (plan_payload 1) c.as_slice.ensures))
    (c.in_ok-three.ensures.order ∙ ap (λ (p : Payload). targeted 3 4 (act.Emergency p)) (c.in_ok-code_three.ensures ∙ ap (plan_payload 1) c.as_slice-2.ensures))
    c.in_ok-targeted-3.ensures.order
    c.in_ok-put_order.ensures.text c.in_ok-put_order-2.ensures.text c.in_ok-put_order-3.ensures.text c.in_ok-put_order-4.ensures.text last)
    c.put_order-5.ensures.text
