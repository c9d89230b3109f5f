-- Laws of two ends of one command. If two programs meet the definition of a command, do they do the same?
use Rattle.std.specs.Prelude.{◌≡◌, ◌≢◌, ℕ, false, List, [], codes, All, Option, None, Some, if◌then◌else◌}
use Rattle.mb_format.specs.Combinators.{same_bytes}
use Rattle.mb_model.specs.declared.state.State.{State}
use Rattle.mb_model.specs.memories.Acknowledged.{LeavesMemory}
use Rattle.mb_model.specs.memories.Meaning.{IsWellFormed}
use Rattle.mb_model.specs.memories.WrittenImage.{written_image}
use Rattle.mb_model_commands.specs.Outside.{Outside}
use Rattle.mb_model_commands.specs.Commands.{Command as Does, Ended, CommandEnds, IsFaultless, at_first}
use Rattle.mb_model_commands.specs.RunCommand.{RunNames, run}
use Rattle.mb_model_histories.specs.KeyFileLaws.{Files}
use Rattle.mb_model_histories.specs.PowerLaws.{HasOwnAnswer}
use Rattle.mb_console.specs.Words.{Argument}
use Rattle.mb_top.specs.declared.table.Command.{Command}
use Rattle.mb_top.specs.declared.table.Command.TheVariants as command
use Rattle.mb_top.specs.Top.{command_of}
use Rattle.mb_top_laws.specs.LoadLaws.{serves}

-- ---- ends

-- the host shows these files, and these bytes as printed
pub record ShowsAll (outside : Outside) (files : Files) (printed : List ℕ) : Type 0 where
  pub files_are : outside.files ≡ Some files
  pub printed_is : outside.printed ≡ Some printed

-- A command has ended so. Before it the host showed these files, and these bytes as printed; no call of the host
-- failed, and the command did not end for lack of memory.
pub record EndsUndisturbed (does : Does) (files : Files) (printed : List ℕ) (one : Ended) : Type 0 where
  pub ends : CommandEnds does at_first one
  pub shown : ShowsAll one.before files printed
  pub faultless : IsFaultless one.before one.after
  pub found : one.status ≢ 6

-- Two ends are alike: they have the same status, and the hosts show the same files and the same printed bytes.
pub record AreAlike (one other : Ended) : Type 0 where
  pub status : one.status ≡ other.status
  pub files : Files
  pub printed : List ℕ
  pub shown : ShowsAll one.after files printed
  pub also : ShowsAll other.after files printed

-- ---- commands that serve no device

-- Two undisturbed ends of such a command, with the same arguments and from the same files, are alike.
abbrev pub CommandsAreDetermined : Type 0
CommandsAreDetermined =
    (called : Command) (given : List Argument) (files : Files) (printed : List ℕ) (one other : Ended)
    → serves called ≡ false
    → EndsUndisturbed (command_of called given) files printed one
    → EndsUndisturbed (command_of called given) files printed other → AreAlike one other

-- each file is empty
abbrev pub empty_files : Files
empty_files name = Some []

-- the command ends so over these files, whatever disturbs it
abbrev pub EndsFrom : Does → Files → List ℕ → Ended → Type 0
EndsFrom does files printed one = CommandEnds does at_first one × ShowsAll one.before files printed

-- `disasm` of an empty file can end in three ways that are not alike.
pub record DisturbedEndsDiffer (given : List Argument) (printed : List ℕ) : Type 0 where
  -- nothing disturbs it, and it is done
  pub done : Ended
  pub is_done : EndsUndisturbed (command_of command.Disasm given) empty_files printed done
  pub status : done.status ≡ 0
  -- a call of the host fails
  pub failed : Ended
  pub is_failed : EndsFrom (command_of command.Disasm given) empty_files printed failed
  pub found : failed.status ≢ 6
  pub other : AreAlike done failed → ⊥
  -- memory is lacking, and no call of the host fails
  pub lacking : Ended
  pub is_lacking : EndsFrom (command_of command.Disasm given) empty_files printed lacking
  pub faultless : IsFaultless lacking.before lacking.after
  pub another : AreAlike done lacking → ⊥

-- ---- `run`

-- two files hold the same, or images that mean the same state
pub data HoldAlike (one other : Option (List ℕ)) : Type 0 where
  hold_the_same : one ≡ other → HoldAlike one other
  hold_images : (image changed : List ℕ) (state : Option State) → one ≡ Some image → other ≡ Some changed
      → IsWellFormed image state → IsWellFormed changed state → HoldAlike one other

-- Two ends of `run` are alike but for the bytes of their images: they have the same status and the same answers, and
-- the hosts show the same printed bytes and the same files, except that their images may be two that mean the same
-- state. If no answer tells of a change, and no event is a tamper, the images are the same too.
pub record AreRunsAlike (image : List ℕ) (one other : Ended) : Type 0 where
  pub status : one.status ≡ other.status
  pub answers : one.used.answered ≡ other.used.answered
  pub files : Files
  pub changed : Files
  pub printed : List ℕ
  pub shown : ShowsAll one.after files printed
  pub also : ShowsAll other.after changed printed
  pub others : (name : List ℕ) → name ≢ image → files name ≡ changed name
  pub images : HoldAlike (files image) (changed image)
  pub untouched : All LeavesMemory one.used.answered → files image ≡ changed image

-- Two undisturbed ends of `run`, with the same names and from the same files, are so alike, if each answer is the
-- machine's own: memory was found at each event, and power held.
abbrev pub RunsAgree : Type 0
RunsAgree =
    (names : RunNames) (files : Files) (printed : List ℕ) (one other : Ended)
    → EndsUndisturbed (run names) files printed one
    → EndsUndisturbed (run names) files printed other → All HasOwnAnswer one.used.answered
    → All HasOwnAnswer other.used.answered → AreRunsAlike names.image one other

-- the names of the files of a call of `run`
abbrev pub dead_names : RunNames
dead_names = record { image = codes "image"; script = codes "script"; noise = codes "noise" }

-- the image of a dead device, a script with this text, and empty files
abbrev pub dead_files : List ℕ → Files
dead_files script name =
    if same_bytes name (codes "image") then Some (written_image None)
    else if same_bytes name (codes "script") then Some script else Some []

-- two undisturbed ends of `run` over these files
pub record TwoRuns (script printed : List ℕ) : Type 0 where
  pub one : Ended
  pub is_one : EndsUndisturbed (run dead_names) (dead_files script) printed one
  pub other : Ended
  pub is_other : EndsUndisturbed (run dead_names) (dead_files script) printed other

-- An event that is answered `no memory` leaves no trace in the status: over a script of one `status` two such ends have
-- printed two texts. At the first of them the answer is the machine's own.
pub record LackingRunsDiffer (printed : List ℕ) : Type 0 where
  pub runs : TwoRuns (codes "status\n") printed
  pub own : All HasOwnAnswer runs.one.used.answered
  pub differ : runs.one.after.printed ≢ runs.other.after.printed

-- The bytes of an image are left free: over a script of one `tamper` two such ends, at which each answer is the
-- machine's own, have left two images.
pub record ImagesMayDiffer (printed : List ℕ) : Type 0 where
  pub runs : TwoRuns (codes "tamper\n") printed
  pub own : All HasOwnAnswer runs.one.used.answered
  pub also : All HasOwnAnswer runs.other.used.answered
  pub differ : runs.one.after.files ≢ runs.other.after.files
