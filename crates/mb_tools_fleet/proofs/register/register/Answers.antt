use Rattle.std.proofs.Common.{List, ℕ, ◌++◌, refl, ap, ◌∙◌}
use Rattle.mb_model.specs.chains.Lines.{text_of}
use Rattle.mb_model_commands.specs.Commands.{at_first}
use Rattle.mb_console.specs.Outputs.{writes}
use Rattle.mb_console.proofs.Leading.{begins, lacks_memory}
use Rattle.mb_fleet.specs.declared.row.Row.{Row}
use Rattle.mb_fleet.specs.RegisterFormat.{register_format}
use Rattle.mb_tools_fleet.specs.RegisterCommands.{devices_lines, register}
use Rattle.mb_tools_fleet.proofs.register.register.Goals as goal

pub returns-in_default : goal.returns-in_default
unfolding register
returns-in_default g c = λ final. lacks_memory begins tt refl refl

pub returns-in_default-devices_text : goal.returns-in_default-devices_text
unfolding register
returns-in_default-devices_text g c = λ final. lacks_memory begins tt refl refl

pub returns : goal.returns
unfolding register writes
returns g c = λ final.
    let after = c.new-fleet.result in
    let appended = ◌∙◌ {A = List ℕ} c.in-Ok.ensures.items (ap (λ (old : List ℕ). old ++ register_format.spelling after) c.new-bytes.ensures.items) in
    let spelled = ◌∙◌ {A = List ℕ} c.deref.ensures.value (◌∙◌ {A = List ℕ} appended (ap register_format.spelling c.new-fleet.ensures)) in
    let lines = ap (λ (rows : List Row). text_of (devices_lines rows)) (◌∙◌ {A = List Row} c.rows.ensures c.new-fleet.ensures) in
    let told = ◌∙◌ {A = List ℕ} c.deref-2.ensures.value (◌∙◌ {A = List ℕ} c.in-Ok-devices_text.ensures lines) in
    (rw (spelled, told) at c.finish.ensures) at_first final
