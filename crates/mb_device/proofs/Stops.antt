-- Which calls power losses have stopped, by the answer.
use Rattle.std.proofs.Common.{◌≡◌, ℕ, refl}
use Rattle.mb_model.specs.declared.reply.Reply.{Reply}
use Rattle.mb_model.specs.declared.reply.Reply.TheVariants as reply
use Rattle.mb_model.specs.outside.Board.{stops_by_answer}
use Rattle.mb_board.specs.Calls.{stops_by}
use Rattle.mb_device.specs.Stepping.{stop_told}

-- calls whose stop the answer tells are counted as the answer says
pub counted_by_answer : (answer : Reply) (stops : ℕ) → stops_by (stop_told answer) stops ≡ stops_by_answer answer stops
counted_by_answer reply.Off stops = refl
counted_by_answer reply.Tampered stops = refl
counted_by_answer reply.Armed stops = refl
counted_by_answer reply.Booted stops = refl
counted_by_answer (reply.At r) stops = refl
counted_by_answer (reply.Done number size) stops = refl
counted_by_answer reply.Kept stops = refl
counted_by_answer reply.Dropped stops = refl
counted_by_answer (reply.Value bytes) stops = refl
counted_by_answer (reply.Signed key index statement) stops = refl
counted_by_answer (reply.Called value) stops = refl
counted_by_answer reply.Absent stops = refl
counted_by_answer (reply.Status serial number size one two three) stops = refl
counted_by_answer (reply.Refused refusal) stops = refl
counted_by_answer reply.NoMemory stops = refl
counted_by_answer reply.Stopped stops = refl
