-- What the code's view of an action means. Is each demand taken in its turn, and none left out?
use Rattle.std.specs.Prelude.{◌≡◌, ℕ, zero, suc, List, [], ◌∷◌, Option, Some, None, Result, Ok, Err}
use Rattle.mb_format.specs.Format.{Spells}
use Rattle.mb_format.specs.Combinators.{times}
use Rattle.mb_bytes.specs.declared.cursor.Cursor.{Cursor}
use Rattle.mb_bytes.specs.Reads.{ReadsOk, ReadsErr}
use Rattle.mb_model.specs.declared.tools.BadRecord.{BadRecord}
use Rattle.mb_model.specs.machine.Actions.{to_keep, to_drop, Action as Asked, demand_format, action_format}
use Rattle.mb_model.specs.machine.Actions.{Demand as AskedDemand}
use Rattle.mb_appvm.specs.declared.action.Action.{Action}
use Rattle.mb_appvm.specs.declared.action.Demand.{Demand}
use Rattle.mb_appvm.specs.declared.action.Demand.TheVariants as demand
use Rattle.mb_appvm.specs.declared.action.Demands.{Demands}

-- the demand that the code's value means
abbrev pub demand_of : Demand → AskedDemand
demand_of (demand.Keep name value) = to_keep name.now value.now
demand_of (demand.Drop name) = to_drop name.now

-- the demand that was read, and those after it; none if no demand was read
abbrev pub demand_then : Result (AskedDemand × ℕ) ℕ → (ℕ → List AskedDemand) → List AskedDemand
demand_then (Ok read) later = read.0 ∷ later read.1
demand_then (Err offset) later = []

-- the demands that stand one after another from an offset on, this many at most
unfoldable pub demands_from : ℕ → List ℕ → ℕ → List AskedDemand
demands_from zero bytes at = []
demands_from (suc left) bytes at =
    demand_then (demand_format.reads bytes at) (λ after. demands_from left bytes after)

-- the demands that the code's value has left
abbrev pub demands_of : Demands → List AskedDemand
demands_of demands = demands_from demands.left demands.cursor.bytes.now demands.cursor.offset

-- the action that the code's view means
abbrev pub action_of : Action → Asked
action_of action = record { demands = demands_of action.demands; answer = action.answer.now }

-- the first of the demands was taken, and the others are left; or there was none
abbrev pub TakesDemand : Demands → Option Demand → Demands → Type 0
TakesDemand old None new = demands_of old ≡ []
TakesDemand old (Some taken) new = demands_of old ≡ demand_of taken ∷ demands_of new

-- this many demands stand at the cursor, which goes past them; or one of them fails
abbrev pub PassesDemands : ℕ → Cursor → Result (Unit {0}) BadRecord → Cursor → Type 0
PassesDemands count old (Ok done) new =
    (demands : List AskedDemand) × ReadsOk (times count demand_format) old demands new
PassesDemands count old (Err e) new = ReadsErr (times count demand_format) old e.at new

-- the bytes spell no action
abbrev pub AsksNothing : List ℕ → Type 0
AsksNothing output = (action : Asked) → Spells action_format output action → ⊥
