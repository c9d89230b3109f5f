use Rattle.std.proofs.Common.{List, ℕ, ◌++◌, refl, ap, ◌∙◌}
use Rattle.mb_model_commands.specs.Commands.{at_first}
use Rattle.mb_console.specs.Outputs.{writes}
use Rattle.mb_console.proofs.Leading.{begins, reads, finds, stops_at_input, lacks_memory}
use Rattle.mb_fleet.specs.RegisterFormat.{register_format}
use Rattle.mb_tools_fleet.specs.FleetCommand.{fleet, all_served}
use Rattle.mb_tools_fleet.proofs.FleetLemmas.{items_unanswered}
use Rattle.mb_tools_fleet.proofs.fleet.fleet.Goals as goal

pub returns-in_err-root : goal.returns-in_err-root
unfolding fleet
returns-in_err-root g c = λ final. stops_at_input _ _ _ begins c.from_residual.ensures.1 c.in_err-root.ensures.err refl refl

pub returns-in_err-fleet : goal.returns-in_err-fleet
unfolding fleet
returns-in_err-fleet g c = λ final. stops_at_input _ _ _ (reads begins c.in_ok-root.ensures.read) c.from_residual-in_err-fleet.ensures.1 c.in_err-fleet.ensures.err refl refl

pub returns-in_err-items : goal.returns-in_err-items
unfolding fleet
returns-in_err-items g c = λ final.
    let fleet = reads (reads begins c.in_ok-root.ensures.read) c.in_ok-fleet.ensures.read in
    stops_at_input _ _ _ fleet c.from_residual-in_err-items.ensures.1 c.in_err-items.ensures.err refl refl

pub returns-in-Err : goal.returns-in-Err
unfolding fleet
returns-in-Err g c = λ final.
    let items = reads (reads (reads begins c.in_ok-root.ensures.read) c.in_ok-fleet.ensures.read) c.in_ok-items.ensures.read in
    items_unanswered _ c.serve_items.new.fleet _ items c.as_slice.ensures c.in-Err.ensures refl refl

pub returns-in_default : goal.returns-in_default
unfolding fleet
returns-in_default g c = λ final.
    let items = reads (reads (reads begins c.in_ok-root.ensures.read) c.in_ok-fleet.ensures.read) c.in_ok-items.ensures.read in
    let served = finds items (all_served c.in-Ok.text c.serve_items.new.fleet) (rw c.as_slice.ensures at c.in-Ok.ensures) in
    lacks_memory served tt refl refl

pub returns : goal.returns
unfolding fleet writes
returns g c = λ final.
    let items = reads (reads (reads begins c.in_ok-root.ensures.read) c.in_ok-fleet.ensures.read) c.in_ok-items.ensures.read in
    let served = finds items (all_served c.in-Ok.text c.serve_items.new.fleet) (rw c.as_slice.ensures at c.in-Ok.ensures) in
    let spelled = ◌∙◌ {A = List ℕ} c.deref.ensures.value (◌∙◌ {A = List ℕ} c.in-Ok-write.ensures.items (ap (λ (old : List ℕ). old ++ register_format.spelling c.serve_items.new.fleet) c.new-bytes.ensures.items)) in
    let carried = rw (spelled, c.as_slice-2.ensures) at c.finish.ensures in
    served.lead _ _ (carried at_first final)
