-- What any command does. What has been read, written and printed when it ends, in which order, and with which status?
use Rattle.std.specs.Prelude.{◌≡◌, ◌≢◌, ℕ, ◌≤◌, ◌⊎◌, Bool, true, false, List, ◌++◌, length, codes, Option, Some}
use Rattle.std.specs.Fmt.{decimal}
use Rattle.mb_format.specs.Format.{IsBytes}
use Rattle.mb_model.specs.declared.event.Answered.{Answered}
use Rattle.mb_model.specs.outside.Texts.{line_with_lf}
use Rattle.mb_model.specs.declared.limits.TheConstants.{FILE_LIMIT}
use Rattle.mb_model.specs.outside.Board.{Held, Used, not_used, loaded_once_more, having_answered}
use Rattle.mb_model_commands.specs.declared.role.Role.{Role}
use Rattle.mb_model_commands.specs.declared.role.Role.TheVariants as role
use Rattle.mb_model_commands.specs.declared.role.Place.{Place}
use Rattle.mb_model_commands.specs.declared.role.Place.TheVariants as fault
use Rattle.mb_model_commands.specs.Outside.{Outside, HasRisen, HoldsFile, HoldsTooMuch, read_once, FailsToRead}
use Rattle.mb_model_commands.specs.Outside.{WritesFile, FailsToWrite, Prints, FailsToPrint}

-- ---- words

-- the word for an input or an output
abbrev pub role_word : Role → List ℕ
role_word role.Image = codes "image"
role_word role.Script = codes "script"
role_word role.Noise = codes "noise"
role_word role.Root = codes "root"
role_word role.Chain = codes "chain"
role_word role.Statement = codes "statement"
role_word role.Owner = codes "owner"
role_word role.Code = codes "code"
role_word role.Key = codes "key"
role_word role.Public = codes "public"
role_word role.Draft = codes "draft"
role_word role.Order = codes "order"
role_word role.Out = codes "out"
role_word role.Endorsement = codes "endorsement"
role_word role.Policy = codes "policy"
role_word role.Input = codes "input"
role_word role.Text = codes "text"
role_word role.Register = codes "register"
role_word role.Items = codes "items"

-- the words for the place where an input is at fault
abbrev pub place_words : Place → List ℕ
place_words fault.Length = codes "length"
place_words (fault.At offset) = codes "at " ++ decimal offset
place_words (fault.Line number) = codes "line " ++ decimal number
place_words fault.Root = codes "root"
place_words fault.Public = codes "public"
place_words (fault.Region number) = codes "region " ++ decimal number
place_words fault.State = codes "state"

-- ---- what a command does

-- An input: its role, the name of its file, which value its bytes mean, and at which place they are at fault if they
-- mean none.
pub record Input (A : Type 0) : Type 1 where
  pub role : Role
  pub name : List ℕ
  pub Is : List ℕ → A → Type 0
  pub FaultyAt : List ℕ → Place → Type 0

-- an output: its role, the name of its file, and its bytes
pub record Output : Type 0 where
  pub role : Role
  pub name : List ℕ
  pub bytes : List ℕ

-- What a command does, step by step.
pub data Command : Type 1 where
  -- reads an input, and goes on with the value that its bytes mean
  read : {A : Type 0} → Input A → (A → Command) → Command
  -- goes on with some value for which this holds
  find : {A : Type 0} → (A → Type 0) → (A → Command) → Command
  -- does the first if this holds, and else the second
  either_command : Type 0 → Command → Command → Command
  -- loads this image on the board
  load : List ℕ → Command → Command
  -- serves the board's events, so that this holds of what was answered and of what the board held at the last answer
  serve : (List Answered → Held → Type 0) → (List Answered → Held → Command) → Command
  -- Serves events as `serve` does, before the board is loaded anew, so that what the board answered is gone then. Two
  -- `serve`s in a row would both speak of the second run. Once the second load has succeeded the definition says of the
  -- first run only that there is one and which state it leaves, so no clause says that the status is 6 if a reply of it
  -- was `no memory`.
  rehearse : (List Answered → Held → Type 0) → (List Answered → Held → Command) → Command
  -- writes an output
  write : Output → Command → Command
  -- prints a text and is done
  print : List ℕ → Command
  -- refuses: prints a line, and does nothing else
  refuse : List ℕ → Command
  -- ends for lack of memory, which was wanted while it served events
  lack : Command

-- ---- how a command ends

-- What a command has done so far that its end depends on: how it used the board, and whether a file was written.
pub record Past : Type 0 where
  pub used : Used
  pub wrote : Bool

abbrev pub at_first : Past
at_first = record { used = not_used; wrote = false }

-- A command from one of its steps to its end: what is outside before the step and after the end, how the board was used
-- by then and what it held at the last answer, and the status.
pub record Ended : Type 0 where
  pub before : Outside
  pub after : Outside
  pub used : Used
  pub final : Held
  pub status : ℕ

-- the end as seen from a later step, with `mid` outside before that step
abbrev pub end_seen_from : Outside → Ended → Ended
end_seen_from mid ending = record ending { before = mid }

-- the line is printed; if that fails, a prefix of it is, which may be empty or all of it
abbrev pub SaysLine : List ℕ → Outside → Outside → Type 0
SaysLine line before after = Prints (line_with_lf line) before after ⊎ FailsToPrint (line_with_lf line) before after

-- The command stops: it prints a line and does nothing else, and there was neither a load nor an answer beyond those of
-- its past.
pub record Stops (line : List ℕ) (status : ℕ) (past : Past) (ending : Ended) : Type 0 where
  pub says : SaysLine line ending.before ending.after
  pub used : ending.used ≡ past.used
  pub status_is : ending.status ≡ status

-- Status 6: an allocation failed. Except at `lack`, this can happen only while no file has been written.
pub record WantsMemory (past : Past) (ending : Ended) : Type 0 where
  pub first : past.wrote ≡ false
  pub stops : Stops (codes "no memory") 6 past ending

-- the line that reports what is wrong with an input
abbrev pub input_line : Role → List ℕ → List ℕ
input_line role what = codes "input " ++ role_word role ++ codes " " ++ what

-- The file of this name was read: it holds these bytes, if the host shows its files. They are at most `FILE_LIMIT`.
pub record HasRead (outside : Outside) (name bytes : List ℕ) : Type 0 where
  pub held : HoldsFile outside name bytes
  pub are_bytes : IsBytes bytes
  pub fits : length bytes ≤ FILE_LIMIT

-- the command ends at an input
pub data InputEnds {A : Type 0} (input : Input A) (past : Past) (ending : Ended) : Type 0 where
  -- status 3: the input is too long
  input_is_too_long : HoldsTooMuch ending.before input.name
      → Stops (input_line input.role (codes "too long")) 3 past (end_seen_from (read_once ending.before) ending)
      → InputEnds input past ending
  -- status 3: the input is at fault
  input_is_faulty : (bytes : List ℕ) → HasRead ending.before input.name bytes → (place : Place)
      → input.FaultyAt bytes place
      → Stops (input_line input.role (place_words place)) 3 past (end_seen_from (read_once ending.before) ending)
      → InputEnds input past ending
  -- status 4: the input could not be read
  input_is_not_read : (mid : Outside) → FailsToRead input.name ending.before mid
      → Stops (codes "read failed " ++ role_word input.role) 4 past (end_seen_from mid ending)
      → InputEnds input past ending
  -- status 6: there was no memory for the input
  memory_lacks : WantsMemory past (end_seen_from (read_once ending.before) ending) → InputEnds input past ending

-- status 5: the output could not be written, and what its file holds is not known
pub record WriteEnds (output : Output) (past : Past) (ending : Ended) : Type 0 where
  pub mid : Outside
  pub fails : FailsToWrite output.name ending.before mid
  pub stops : Stops (codes "write failed " ++ role_word output.role) 5 past (end_seen_from mid ending)

-- the command ends with its text
pub data PrintEnds (text : List ℕ) (past : Past) (ending : Ended) : Type 0 where
  -- status 0: done
  text_is_printed : Prints text ending.before ending.after → ending.used ≡ past.used → ending.status ≡ 0
      → PrintEnds text past ending
  -- status 5: the call that prints the text failed
  text_is_not_printed : (mid : Outside) → FailsToPrint text ending.before mid
      → Stops (codes "write failed output") 5 past (end_seen_from mid ending) → PrintEnds text past ending

-- How a command can end. Each step begins with what the step before has left outside. So each input is read once and
-- each output written once, in this order. What is printed is one text or one line; a line follows a text only if the
-- call that prints the text failed.
unfoldable pub CommandEnds : Command → Past → Ended → Type 0
CommandEnds (read {A = A} input rest) past ending =
    InputEnds input past ending
    ⊎ ((bytes : List ℕ) × HasRead ending.before input.name bytes
    × ((value : A)
    × input.Is bytes value
    × CommandEnds (rest value) past (end_seen_from (read_once ending.before) ending)))
CommandEnds (find {A = A} Is rest) past ending =
    ((value : A) × Is value × CommandEnds (rest value) past ending) ⊎ WantsMemory past ending
CommandEnds (either_command If first second) past ending =
    (If × CommandEnds first past ending) ⊎ ((If → ⊥) × CommandEnds second past ending) ⊎ WantsMemory past ending
CommandEnds (load image rest) past ending =
    CommandEnds rest (record past { used = loaded_once_more image past.used }) ending ⊎ WantsMemory past ending
CommandEnds (serve IsServed rest) past ending =
    (ending.used ≡ having_answered ending.used.answered past.used)
    × IsServed ending.used.answered ending.final
    × CommandEnds (rest ending.used.answered ending.final) (record past { used = ending.used }) ending
CommandEnds (rehearse IsRehearsed rest) past ending =
    (answered : List Answered) × (held : Held) × IsRehearsed answered held
    × CommandEnds (rest answered held) (record past { used = having_answered answered past.used }) ending
CommandEnds (write output rest) past ending =
    WriteEnds output past ending
    ⊎ ((mid : Outside) × WritesFile output.name output.bytes ending.before mid
    × CommandEnds rest (record past { wrote = true }) (end_seen_from mid ending))
    ⊎ WantsMemory past ending
CommandEnds (print text) past ending = PrintEnds text past ending ⊎ WantsMemory past ending
CommandEnds (refuse line) past ending = Stops line 7 past ending ⊎ WantsMemory past ending
CommandEnds lack past ending = Stops (codes "no memory") 6 past ending

-- ---- when a command is done

-- no fault of a read, a write or a print was counted; a name that is not there is no fault
pub record IsFaultless (before after : Outside) : Type 0 where
  pub read : HasRisen before.read_faults after.read_faults → ⊥
  pub write : HasRisen before.write_faults after.write_faults → ⊥

-- These files have each input that the command can come to, short enough and not at fault.
unfoldable pub HasInputsFor : Command → (List ℕ → Option (List ℕ)) → Type 0
HasInputsFor (read {A = A} input rest) files =
    (bytes : List ℕ) × (files input.name ≡ Some bytes) × (length bytes ≤ FILE_LIMIT)
    × ((place : Place) → input.FaultyAt bytes place → ⊥)
    × ((value : A) → input.Is bytes value → HasInputsFor (rest value) files)
HasInputsFor (find {A = A} Is rest) files = (value : A) → Is value → HasInputsFor (rest value) files
HasInputsFor (either_command If first second) files =
    (If → HasInputsFor first files) × ((If → ⊥) → HasInputsFor second files)
HasInputsFor (load image rest) files = HasInputsFor rest files
HasInputsFor (serve IsServed rest) files =
    (answered : List Answered) (final : Held) → IsServed answered final → HasInputsFor (rest answered final) files
HasInputsFor (rehearse IsRehearsed rest) files =
    (answered : List Answered) (held : Held) → IsRehearsed answered held → HasInputsFor (rest answered held) files
-- a file that was written may hold anything
HasInputsFor (write output rest) files =
    (now : List ℕ → Option (List ℕ)) → ((other : List ℕ) → other ≢ output.name → now other ≡ files other)
    → HasInputsFor rest now
HasInputsFor (print text) files = Unit {0}
HasInputsFor (refuse line) files = Unit {0}
HasInputsFor lack files = Unit {0}

-- with these files the command can come to a refusal
unfoldable pub ComesToRefusal : Command → (List ℕ → Option (List ℕ)) → Type 0
ComesToRefusal (read {A = A} input rest) files =
    (bytes : List ℕ) × (files input.name ≡ Some bytes)
    × ((value : A) × input.Is bytes value × ComesToRefusal (rest value) files)
ComesToRefusal (find {A = A} Is rest) files = (value : A) × Is value × ComesToRefusal (rest value) files
ComesToRefusal (either_command If first second) files =
    (If × ComesToRefusal first files) ⊎ ((If → ⊥) × ComesToRefusal second files)
ComesToRefusal (load image rest) files = ComesToRefusal rest files
ComesToRefusal (serve IsServed rest) files =
    (answered : List Answered) × (final : Held) × IsServed answered final × ComesToRefusal (rest answered final) files
ComesToRefusal (rehearse IsRehearsed rest) files =
    (answered : List Answered) × (held : Held) × IsRehearsed answered held × ComesToRefusal (rest answered held) files
ComesToRefusal (write output rest) files =
    (now : List ℕ → Option (List ℕ)) × ((other : List ℕ) → other ≢ output.name → now other ≡ files other)
    × ComesToRefusal rest now
ComesToRefusal (print text) files = ⊥
ComesToRefusal (refuse line) files = Unit {0}
ComesToRefusal lack files = ⊥
