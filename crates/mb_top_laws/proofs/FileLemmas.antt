-- What a command leaves of the files if it ends without a write.
use Rattle.std.proofs.Common.{◌≡◌, ◌≢◌, ◌<◌, ℕ, List, ◌∙◌, arith}
use Rattle.mb_model_commands.specs.Commands.{Input, Past, Ended, end_seen_from, Stops, InputEnds, input_is_too_long, input_is_faulty, input_is_not_read, memory_lacks}
use Rattle.mb_model_commands.specs.Outside.{read_once}
use Rattle.mb_model_histories.proofs.KeyFileLemmas.{stopped_files, unread_files}

-- the files are as they were, and the command is not done
abbrev pub LeavesFiles : Ended → Type 0
LeavesFiles ending = (ending.after.files ≡ ending.before.files) × (ending.status ≢ 0)

-- a command that stops with a status above 0
pub stops_undone : (line : List ℕ) (status : ℕ) (past : Past) (ending : Ended) → 0 < status → Stops line status past ending → LeavesFiles ending
stops_undone line status past ending above stops = (stopped_files line status past ending stops, λ done. omega (arith, done, stops.status_is, above))

pub input_undone : {A : Type 0} (input : Input A) (past : Past) (ending : Ended) → InputEnds input past ending → LeavesFiles ending
input_undone input past ending (input_is_too_long held stops) = stops_undone _ 3 past (end_seen_from (read_once ending.before) ending) (omega arith) stops
input_undone input past ending (input_is_faulty bytes has place fault stops) = stops_undone _ 3 past (end_seen_from (read_once ending.before) ending) (omega arith) stops
input_undone input past ending (input_is_not_read mid fails stops) =
    let undone : LeavesFiles (end_seen_from mid ending) = stops_undone _ 4 past (end_seen_from mid ending) (omega arith) stops in
    (undone.0 ∙ unread_files input.name ending.before mid fails, undone.1)
input_undone input past ending (memory_lacks wants) = stops_undone _ 6 past (end_seen_from (read_once ending.before) ending) (omega arith) wants.stops
