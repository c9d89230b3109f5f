-- A generated workload as it is served. Are the events those of its script, and the outputs its three files?
use Rattle.std.specs.Prelude.{List, [], ◌∷◌}
use Rattle.mb_model.specs.declared.event.Event.{Event}
use Rattle.mb_model.specs.chains.Lines.{ReadsLines}
use Rattle.mb_model.specs.chains.Script.{IsScript, Drawn}
use Rattle.mb_model_commands.specs.declared.role.Role.TheVariants as role
use Rattle.mb_model_commands.specs.declared.workload.Workload.{Workload}
use Rattle.mb_model_commands.specs.Commands.{Output}
use Rattle.mb_model_commands.specs.GenerateCommand.{GenerateNames}

-- the events are those of the script, with the draws that the noise gives them
pub record HasEvents (files : Workload) (events : List Event) : Type 0 where
  pub undrawn : List Event
  pub script : ReadsLines IsScript files.script undrawn
  pub noise : Drawn undrawn files.noise events

abbrev pub workload_outputs : GenerateNames → Workload → List Output
workload_outputs names files =
    record { role = role.Image; name = names.image; bytes = files.image }
    ∷ record { role = role.Script; name = names.script; bytes = files.script }
    ∷ record { role = role.Noise; name = names.noise; bytes = files.noise }
    ∷ []
