use Rattle.std.proofs.Common.{List, ℕ, refl, ap, ◌∙◌}
use Rattle.mb_model.specs.chains.Lines.{text_of}
use Rattle.mb_model_commands.specs.Commands.{at_first}
use Rattle.mb_console.specs.Outputs.{writes}
use Rattle.mb_console.proofs.Leading.{begins, reads, stops_at_input, lacks_memory}
use Rattle.mb_fleet.specs.declared.row.Row.{Row}
use Rattle.mb_tools_fleet.specs.RegisterCommands.{devices_lines, devices}
use Rattle.mb_tools_fleet.proofs.devices.devices.Goals as goal

pub returns-in_err-fleet : goal.returns-in_err-fleet
unfolding devices
returns-in_err-fleet g c = λ final. stops_at_input _ _ _ begins c.from_residual.ensures.1 c.in_err-fleet.ensures.err refl refl

pub returns-in-Ok : goal.returns-in-Ok
unfolding devices writes
returns-in-Ok g c = λ final.
    let lines = ◌∙◌ {A = List ℕ} c.in-Ok.ensures (ap (λ (rows : List Row). text_of (devices_lines rows)) c.rows.ensures) in
    let told = ◌∙◌ {A = List ℕ} c.deref.ensures.value lines in
    let carried = rw told at c.finish.ensures in
    (reads begins c.in_ok-fleet.ensures.read).lead _ _ (carried at_first final)

pub returns : goal.returns
unfolding devices
returns g c = λ final. lacks_memory (reads begins c.in_ok-fleet.ensures.read) tt refl refl
