-- Whether a workload can be served. Can its script and its noise be refused?
use Rattle.std.specs.Prelude.{◌*◌, ◌≤◌, List, length}
use Rattle.mb_model.specs.declared.event.Event.{Event}
use Rattle.mb_model.specs.declared.limits.TheConstants.{FILE_LIMIT, DRAW_LENGTH}
use Rattle.mb_model.specs.chains.Lines.{ReadsLines}
use Rattle.mb_model.specs.chains.Script.{IsScript, commands_in}
use Rattle.mb_model_commands.specs.declared.workload.Workload.{Workload}

-- The script can be read, its noise has 32 bytes for each of its commands, and neither is longer than an input may be.
pub record CanBeServed (made : Workload) : Type 0 where
  pub undrawn : List Event
  pub script : ReadsLines IsScript made.script undrawn
  pub noise : DRAW_LENGTH * commands_in undrawn ≤ length made.noise
  pub script_fits : length made.script ≤ FILE_LIMIT
  pub noise_fits : length made.noise ≤ FILE_LIMIT
