use Rattle.std.proofs.Common.{ℕ, List, refl, subst, ◌∙◌}
use Rattle.mb_model_commands.specs.Commands.{print, at_first}
use Rattle.mb_console.specs.Ending.{CarriesOutAfter}
use Rattle.mb_console.specs.Outputs.{writes}
use Rattle.mb_console.proofs.Leading.{begins, reads, stops_at_input, lacks_memory}
use Rattle.mb_tools_orders.specs.ShowOrder.{showorder}
use Rattle.mb_tools_orders.proofs.showorder.showorder.Goals as goal

pub returns-in_err-order : goal.returns-in_err-order
unfolding showorder
returns-in_err-order g c = λ final. stops_at_input _ _ _ begins c.from_residual.ensures.1 c.in_err-order.ensures.err refl refl

pub returns-in_default : goal.returns-in_default
unfolding showorder
returns-in_default g c = λ final. lacks_memory (reads begins c.in_ok-order.ensures.read) tt refl refl

pub returns : goal.returns
unfolding showorder writes
returns g c = λ final.
    let outside = g.H.Host.outside in
    let told = subst (λ (t : List ℕ). CarriesOutAfter (print t) (outside c.read_as.new.host) c.finish.result (outside c.finish.new.host)) (c.deref.ensures.value ∙ c.in-Ok.ensures) c.finish.ensures in
    (reads begins c.in_ok-order.ensures.read).lead _ _ (told at_first final)
