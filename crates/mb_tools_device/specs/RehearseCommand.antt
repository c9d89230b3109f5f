-- What the command `rehearse` does. Are the events of a script served as `run` serves them, with no file written, and
-- no value of a secret, no statement and no answer to a call told?
use Rattle.std.specs.Prelude.{◌≡◌, ℕ, Bool, true, false, List, [], ◌∷◌, ◌++◌, length, codes, All, flat_map}
use Rattle.std.specs.Fmt.{decimal}
use Rattle.mb_model.specs.declared.event.Answered.{Answered}
use Rattle.mb_model.specs.declared.event.Event.{Event}
use Rattle.mb_model.specs.declared.reply.Reply.{Reply}
use Rattle.mb_model.specs.declared.reply.Reply.TheVariants as reply
use Rattle.mb_model.specs.outside.Texts.{line_with_lf}
use Rattle.mb_model.specs.chains.Lines.{ReadsLines, spaced_words}
use Rattle.mb_model.specs.chains.Replies.{reply_line}
use Rattle.mb_model.specs.chains.Script.{IsScript}
use Rattle.mb_script.specs.Reading.{IsLineOf}
use Rattle.mb_model_commands.specs.declared.role.Role.TheVariants as role
use Rattle.mb_model_commands.specs.Commands.{Input, Command, read, find, either_command, load, serve, print, refuse}
use Rattle.mb_model_commands.specs.Inputs.{image_input, script_input, draws_input}
use Rattle.mb_model_commands.specs.RunCommand.{RunNames, IsServed}

-- ---- the script

-- a script that was read: its text, and the events that the text means
pub record WholeScript : Type 0 where
  pub text : List ℕ
  pub events : List Event

-- a script, as `run` reads it, whose text is kept
abbrev pub whole_script_input : List ℕ → Input WholeScript
whole_script_input name = record {
  role = role.Script;
  name = name;
  Is = λ bytes script. (script.text ≡ bytes) × ReadsLines IsScript bytes script.events;
  FaultyAt = (script_input name).FaultyAt;
}

-- ---- what is told

-- a reply without what it hands out: the value of a secret, a statement, or the answer to a call
abbrev pub veiled : Reply → Reply
veiled (reply.Value value) = reply.Value []
veiled (reply.Signed key index statement) = reply.Signed key index []
veiled (reply.Called answer) = reply.Called []
veiled other = other

-- the line of each reply, veiled
abbrev pub veiled_text : List Answered → List ℕ
veiled_text answered = flat_map (λ each. line_with_lf (reply_line (veiled each.reply))) answered

-- the device did not do what the event asks: it refused, power failed, or an allocation failed
abbrev pub is_unobeyed : Reply → Bool
is_unobeyed (reply.Refused number) = true
is_unobeyed reply.Stopped = true
is_unobeyed reply.NoMemory = true
is_unobeyed _ = false

-- each event was obeyed
abbrev pub AllObeyed : List Answered → Type 0
AllObeyed answered = All (λ each. is_unobeyed each.reply ≡ false) answered

-- an event that was not obeyed: the line of the script at which it stands, from 1, and its reply
pub record Unobeyed : Type 0 where
  pub line : ℕ
  pub reply : Reply

-- This is the first of the events that was not obeyed.
pub record IsFirstUnobeyed (text : List ℕ) (answered : List Answered) (first : Unobeyed) : Type 0 where
  pub before : List Answered
  pub this : Answered
  pub later : List Answered
  pub split : answered ≡ before ++ this ∷ later
  pub obeyed : AllObeyed before
  pub unobeyed : is_unobeyed this.reply ≡ true
  pub reply_is : first.reply ≡ this.reply
  pub stands : IsLineOf text (length before) first.line

-- the line of the first event that was not obeyed
abbrev pub first_line : Unobeyed → List ℕ
first_line first = spaced_words (codes "first" ∷ decimal first.line ∷ reply_line first.reply ∷ [])

-- ---- the command

-- The replies are printed, veiled. If an event was not obeyed, the line of the first stands after them, and the command
-- is refused with all these lines.
abbrev pub tell_rehearsal : List ℕ → List Answered → Command
tell_rehearsal text answered =
    either_command (AllObeyed answered) (print (veiled_text answered))
    (find (IsFirstUnobeyed text answered) (λ first. refuse (veiled_text answered ++ first_line first)))

-- Image, script and noise are read, the image is loaded, and the events of the script are served with their draws, as
-- `run` does. No file is written.
unfoldable pub rehearsal : RunNames → Command
rehearsal names =
    read (image_input names.image) (λ image.
    read (whole_script_input names.script) (λ script.
    read (draws_input script.events names.noise) (λ events.
    load image.bytes
    (serve (IsServed image events) (λ answered final.
    tell_rehearsal script.text answered)))))
