use Rattle.std.proofs.Common.{ℕ, List, refl, subst, ◌∙◌}
use Rattle.mb_model_commands.specs.Commands.{print, at_first}
use Rattle.mb_console.specs.Ending.{CarriesOutAfter}
use Rattle.mb_console.specs.Outputs.{writes}
use Rattle.mb_console.proofs.Leading.{begins, reads, finds, chooses_first, chooses_second, stops_at_input, is_refused, lacks_memory}
use Rattle.mb_tools_orders.specs.Ordered.{ordered}
use Rattle.mb_tools_orders.proofs.Telling.{told_none, told_some}
use Rattle.mb_tools_orders.proofs.ordered.ordered.Goals as goal

pub returns-in_err-key : goal.returns-in_err-key
unfolding ordered
returns-in_err-key g c = λ final. stops_at_input _ _ _ begins c.from_residual.ensures.1 c.in_err-key.ensures.err refl refl

pub returns-in_err-order : goal.returns-in_err-order
unfolding ordered
returns-in_err-order g c = λ final. stops_at_input _ _ _ (reads begins c.in_ok-key.ensures.read) c.from_residual-in_err-order.ensures.1 c.in_err-order.ensures.err refl refl

pub returns-in_default : goal.returns-in_default
unfolding ordered
returns-in_default g c = λ final. lacks_memory (reads (reads begins c.in_ok-key.ensures.read) c.in_ok-order.ensures.read) tt refl refl

pub returns-then-is_empty : goal.returns-then-is_empty
unfolding ordered
returns-then-is_empty g c = λ final.
    let names = c.in-Ok.ensures in
    let named = finds (reads (reads begins c.in_ok-key.ensures.read) c.in_ok-order.ensures.read) names.0 names.1 in
    is_refused (chooses_first named (told_none names.0 c.in-Ok.text.items c.in-Ok.text.len c.is_empty.result names.2 c.in-Ok.text.ok.0 c.is_empty.ensures c.if-is_empty.true)) refl _ c.refused.ensures

pub returns : goal.returns
unfolding ordered writes
returns g c = λ final.
    let outside = g.H.Host.outside in
    let names = c.in-Ok.ensures in
    let named = finds (reads (reads begins c.in_ok-key.ensures.read) c.in_ok-order.ensures.read) names.0 names.1 in
    let told = subst (λ (t : List ℕ). CarriesOutAfter (print t) (outside c.read_as-2.new.host) c.finish.result (outside c.finish.new.host)) (c.deref.ensures.value ∙ names.2) c.finish.ensures in
    (chooses_second named (told_some names.0 c.in-Ok.text.items c.in-Ok.text.len c.is_empty.result names.2 c.in-Ok.text.ok.0 c.is_empty.ensures c.if-is_empty.false)).lead _ _ (told at_first final)
