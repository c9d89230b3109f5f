-- What the command `generate` does. Is the workload that is served the same for everyone, and does the summary count
-- what was answered?
use Rattle.std.specs.Prelude.{◌≡◌, ℕ, List, length, Any, Option}
use Rattle.sha2.specs.Sha256.{sha256}
use Rattle.mb_model.specs.declared.event.Event.{Event}
use Rattle.mb_model.specs.declared.event.Answered.{Answered}
use Rattle.mb_model.specs.declared.reply.Reply.TheVariants as reply
use Rattle.mb_model.specs.declared.state.State.{State}
use Rattle.mb_model.specs.machine.Machine.{World}
use Rattle.mb_model.specs.outside.Board.{Held, image_of}
use Rattle.mb_model.specs.memories.Acknowledged.{Shows}
use Rattle.mb_model.specs.memories.Meaning.{IsWellFormed, log_length}
use Rattle.mb_model.specs.chains.Lines.{ReadsLines, text_of}
use Rattle.mb_model.specs.chains.Script.{IsScript, Drawn}
use Rattle.mb_model.specs.chains.Listing.{summary}
use Rattle.mb_model_commands.specs.declared.role.Role.TheVariants as role
use Rattle.mb_model_commands.specs.declared.workload.Workload.{Workload}
use Rattle.mb_model_commands.specs.Workload.{IsWorkload}
use Rattle.mb_model_commands.specs.Commands.{Command, find, either_command, load, serve, write, print, lack}
use Rattle.mb_model_commands.specs.Inputs.{Image}
use Rattle.mb_model_commands.specs.RunCommand.{IsServed}

-- the number of the workload, how many rounds it has, and the names of its files
pub record GenerateNames : Type 0 where
  pub number : ℕ
  pub rounds : ℕ
  pub image : List ℕ
  pub script : List ℕ
  pub noise : List ℕ

-- A workload that can be served: its files, the state that its image means, and the events of its script with the draws
-- that its noise gives them.
pub record Prepared : Type 0 where
  pub files : Workload
  pub state : Option State
  pub events : List Event

-- the files are those of the workload of this number with this many rounds, and mean this state and these events
pub record IsPrepared (number rounds : ℕ) (made : Prepared) : Type 0 where
  pub generated : IsWorkload number rounds made.files
  pub image : IsWellFormed made.files.image made.state
  pub undrawn : List Event
  pub script : ReadsLines IsScript made.files.script undrawn
  pub noise : Drawn undrawn made.files.noise made.events

-- what the board holds shows a device whose log has this many entries
pub record ShowsLog (final : Held) (entries : ℕ) : Type 0 where
  pub last : World
  pub shown : Shows final last
  pub entries_is : entries ≡ log_length last.state

-- Prints the summary, with the length of the log and the hash of the image as the board held them at the last answer.
-- If an event was answered `NoMemory`, there is no summary.
abbrev pub summarise : List Answered → Held → Command
summarise answered final =
    either_command (Any (λ each. each.reply ≡ reply.NoMemory) answered) lack
    (find (ShowsLog final) (λ entries. print (text_of (summary answered entries (sha256 (image_of final.memory))))))

-- the image of a workload, with its state
abbrev pub prepared_image : Prepared → Image
prepared_image made = record { bytes = made.files.image; state = made.state }

-- A workload is found. Its image is loaded, its three files are written, its events are served, and the summary is
-- printed. The files are written first, so that a workload that goes wrong can be served again. The length of the log
-- is counted in the final image: that of the last `done` is not enough if a power loss stopped an order.
unfoldable pub generate : GenerateNames → Command
generate names =
    find (IsPrepared names.number names.rounds) (λ made.
    load made.files.image
    (write (record { role = role.Image; name = names.image; bytes = made.files.image })
    (write (record { role = role.Script; name = names.script; bytes = made.files.script })
    (write (record { role = role.Noise; name = names.noise; bytes = made.files.noise })
    (serve (IsServed (prepared_image made) made.events) summarise)))))
