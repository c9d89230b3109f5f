-- What the command `cutat` does. Which state does a power loss in the last event of a script leave: the one before that
-- event, or the one after it?
use Rattle.std.specs.Prelude.{◌≡◌, ◌≢◌, ℕ, ◌+◌, ◌≤◌, ◌⊎◌, false, List, [], ◌∷◌, ◌++◌, length, codes, All, Any, Option}
use Rattle.mb_model.specs.declared.event.Event.{Event}
use Rattle.mb_model.specs.declared.event.Event.TheVariants as event
use Rattle.mb_model.specs.declared.event.Tear.{Tear}
use Rattle.mb_model.specs.declared.event.Answered.{Answered}
use Rattle.mb_model.specs.declared.limits.TheConstants.{EVENT_LIMIT}
use Rattle.mb_model.specs.declared.reply.Reply.TheVariants as reply
use Rattle.mb_model.specs.declared.state.State.{State}
use Rattle.mb_model.specs.outside.Texts.{IsHex, line_with_lf}
use Rattle.mb_model.specs.chains.Lines.{ReadsLines, TextFailsAtLine}
use Rattle.mb_model.specs.chains.Script.{IsScript, tear_of}
use Rattle.mb_model.specs.machine.Machine.{World}
use Rattle.mb_model.specs.outside.Board.{Held}
use Rattle.mb_model.specs.memories.Acknowledged.{Shows}
use Rattle.mb_model_commands.specs.declared.role.Role.TheVariants as role
use Rattle.mb_model_commands.specs.declared.role.Place.TheVariants as fault
use Rattle.mb_model_commands.specs.Inputs.{Image, image_input, draws_input}
use Rattle.mb_model_commands.specs.Commands.{Input, Command, read, find, either_command, load, rehearse, serve, print}
use Rattle.mb_model_commands.specs.Commands.{lack}
use Rattle.mb_model_commands.specs.RunCommand.{IsServed}
use Rattle.mb_tools_device.specs.MachineRuns.{MachineComesTo, is_cut}

-- the names of the files, the number of the write that is cut, and the word of the bytes that fill its range
pub record CutNames : Type 0 where
  pub image : List ℕ
  pub script : List ℕ
  pub noise : List ℕ
  pub count : ℕ
  pub fill : List ℕ

-- ---- the script

-- Events that can come first in a script whose last event can be cut: none is a cut itself, and there is room for three
-- more.
pub record CanComeFirst (events : List Event) : Type 0 where
  pub uncut : All (λ e. is_cut e ≡ false) events
  pub most : length events + 3 ≤ EVENT_LIMIT

-- Events whose last one can be cut: there is at least one, and they can come first in such a script.
pub record AreUncut (events : List Event) : Type 0 where
  pub some : events ≢ []
  pub can : CanComeFirst events

-- a script whose last event can be cut
pub record IsUncutScript (lines : List (List ℕ)) (events : List Event) : Type 0 where
  pub script : IsScript lines events
  pub uncut : AreUncut events

-- The text is a script, and this line is the first that is wrong in a script whose last event can be cut.
pub record IsRefusedAt (text : List ℕ) (n : ℕ) : Type 0 where
  pub events : List Event
  pub script : ReadsLines IsScript text events
  pub fails : TextFailsAtLine IsUncutScript text n

-- A script whose last event can be cut. It is at fault at the first line that is wrong in a script, or, if there is
-- none, at the first that is wrong in a script whose last event can be cut.
abbrev pub uncut_script_input : List ℕ → Input (List Event)
uncut_script_input name = record {
  role = role.Script;
  name = name;
  Is = ReadsLines IsUncutScript;
  FaultyAt = λ bytes place. (n : ℕ) × (place ≡ fault.Line n) × (TextFailsAtLine IsScript bytes n ⊎ IsRefusedAt bytes n);
}

-- ---- the two runs

-- the events before the last one, the last one, and what is left of the write in which it is cut
pub record CutRun : Type 0 where
  pub first : List Event
  pub last : Event
  pub tear : Tear

-- The run has the events of a script. Nothing is kept of the write, and the bytes of this word fill its range. Four
-- fillings show each way in which a selector can be torn. A number of bytes to keep would be one more word, for writes
-- whose first bytes decide nothing.
pub record IsCutRun (fill_word : List ℕ) (events : List Event) (cut : CutRun) : Type 0 where
  pub whole : events ≡ cut.first ++ cut.last ∷ []
  pub fill : List ℕ
  pub filled : IsHex fill_word fill
  pub torn : cut.tear ≡ tear_of 0 fill

-- the events of the second run: a power loss in the script's last event, then a boot, and power off
abbrev pub cut_events : ℕ → CutRun → List Event
cut_events count cut = cut.first ++ event.Cut count cut.tear ∷ cut.last ∷ event.Boot ∷ event.Off ∷ []

-- an allocation failed at one of the events
abbrev pub AnyLacksMemory : List Answered → Type 0
AnyLacksMemory answered = Any (λ a. a.reply ≡ reply.NoMemory) answered

-- the third answer from the end, to the script's last event, is that power failed
pub record LastIsStopped (answered : List Answered) : Type 0 where
  pub before : List Answered
  pub last : Answered
  pub boot : Answered
  pub off : Answered
  pub split : answered ≡ before ++ last ∷ boot ∷ off ∷ []
  pub stopped : last.reply ≡ reply.Stopped

-- what a board holds shows this state
pub record ShowsState (held : Held) (state : Option State) : Type 0 where
  pub world : World
  pub shown : Shows held world
  pub is : world.state ≡ state

-- The first run was served. Unless an allocation failed, it leaves the state to which the machine comes.
pub record IsRehearsed (image : Image) (cut : CutRun) (answered : List Answered) (held : Held) : Type 0 where
  pub served : IsServed image cut.first answered held
  pub whole : (AnyLacksMemory answered → ⊥)
      → (old : Option State) × ShowsState held old × MachineComesTo image.state cut.first old

-- The second run was served. If no allocation failed and power failed in the script's last event, it leaves the state
-- to which the machine comes before that event, or after it. The line speaks of the second run, which the board still
-- holds. The old state by the machine alone would be computed by no code. Which of the two it is at `new` follows,
-- since the machine is a function (`cuts_count_wholly_or_not_at_all`).
pub record IsCutServed
    (image : Image)
    (count : ℕ)
    (cut : CutRun)
    (answered : List Answered)
    (final : Held) : Type 0 where
  pub served : IsServed image (cut_events count cut) answered final
  pub counts : (AnyLacksMemory answered → ⊥) → LastIsStopped answered
      → (old : Option State) × (new : Option State) × MachineComesTo image.state cut.first old
      × MachineComesTo image.state (cut.first ++ cut.last ∷ []) new × (ShowsState final old ⊎ ShowsState final new)

-- Both runs leave one state. States are compared, and not images or their hashes: one state can stand in either of two
-- areas, and what stands behind a record is free. The length of the log stays over a `put`.
pub record ShowSame (held final : Held) : Type 0 where
  pub state : Option State
  pub first : ShowsState held state
  pub second : ShowsState final state

-- ---- the command

-- Which state is left if power failed: the old one if both runs leave one state, else the new one. The old state comes
-- first: a boot that does pending work, and a `put` of what stands there, leave the state that was before. A fourth
-- line would have to be known to be no danger.
abbrev pub tell_state : Held → Held → Command
tell_state held final =
    either_command (ShowSame held final) (print (line_with_lf (codes "old"))) (print (line_with_lf (codes "new")))

-- whether power failed in the last event, and which state is left then
abbrev pub tell_cut : Held → List Answered → Held → Command
tell_cut held answered final =
    either_command (AnyLacksMemory answered) lack
    (either_command (LastIsStopped answered) (tell_state held final) (print (line_with_lf (codes "unstopped"))))

-- Image, script and noise are read, and the events of two runs are found. The image is loaded, and the events before
-- the last are served. Then it is loaded anew, and all events are served with a power loss in the last. No file is
-- written.
unfoldable pub cutat : CutNames → Command
cutat names =
    read (image_input names.image) (λ image.
    read (uncut_script_input names.script) (λ undrawn.
    read (draws_input undrawn names.noise) (λ events.
    find (IsCutRun names.fill events) (λ cut.
    load image.bytes
    (rehearse (IsRehearsed image cut) (λ answered held.
    either_command (AnyLacksMemory answered) lack
    (load image.bytes
    (serve (IsCutServed image names.count cut) (tell_cut held)))))))))
