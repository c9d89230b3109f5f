-- Laws of texts, each proved on a public function. Does a text say one thing?
use Rattle.std.specs.Prelude.{◌≡◌, ℕ, ◌+◌, ◌≤◌, false, List, [], ◌∷◌, ◌++◌, length, replicate, All}
use Rattle.hex.specs.Hex.{IsBytes}
use Rattle.mb_model.specs.declared.event.Event.{Event}
use Rattle.mb_model.specs.declared.event.Event.TheVariants as event
use Rattle.mb_model.specs.declared.reply.Reply.{Reply}
use Rattle.mb_model.specs.declared.reply.Reply.TheVariants as reply
use Rattle.mb_model.specs.declared.order.Order.{Order}
use Rattle.mb_model.specs.declared.entry.Statement.{Statement}
use Rattle.mb_model.specs.declared.reply.Refusal.{Refusal}
use Rattle.mb_model.specs.machine.Refusals.{refusal_reply}
use Rattle.mb_model.specs.chains.Replies.{HasLine, reply_line}
use Rattle.mb_model.specs.chains.OrderLines.{IsOrderLine, IsStatementLine}
use Rattle.mb_model.specs.outside.Texts.{IsHex}
use Rattle.mb_model.specs.chains.Lines.{HasLines, hex_word, number_limit, FailsAtLine, ReadsLines, TextFailsAtLine}
use Rattle.mb_model.specs.chains.Script.{IsScriptEvent, SaysEvent, is_skipped, IsScript, drawn_event, drawn_events}
use Rattle.mb_model.specs.chains.Script.{Drawn}
use Rattle.mb_model_commands.specs.Workload.{generator_words, Draws, DrawnInOrder}

-- A text means one value, or one line of it is the first that is wrong: never two of either, never both, never neither.
pub record IsClearText {A : Type 0} (Grammar : List (List ℕ) → A → Type 0) : Type 0 where
  pub one_value : (text : List ℕ) (a b : A) → ReadsLines Grammar text a → ReadsLines Grammar text b → a ≡ b
  pub one_line : (text : List ℕ) (m n : ℕ) → TextFailsAtLine Grammar text m → TextFailsAtLine Grammar text n → m ≡ n
  pub never_both : (text : List ℕ) (a : A) (n : ℕ) → ReadsLines Grammar text a → TextFailsAtLine Grammar text n → ⊥
  pub never_neither : (text : List ℕ)
      → ((a : A) → ReadsLines Grammar text a → ⊥) → ((n : ℕ) → TextFailsAtLine Grammar text n → ⊥) → ⊥

-- each text has lines
abbrev pub SomeLines : Type 0
SomeLines = (text : List ℕ) → (lines : List (List ℕ)) × HasLines text lines

-- a text has one list of lines at most
abbrev pub OneListOfLines : Type 0
OneListOfLines = (text : List ℕ) (a b : List (List ℕ)) → HasLines text a → HasLines text b → a ≡ b

-- the hexadecimal word of bytes is read back as these bytes
abbrev pub WordsAreReadBack : Type 0
WordsAreReadBack = (bytes : List ℕ) → IsBytes bytes → IsHex (hex_word bytes) bytes

-- each event of a script is one that a line can give
abbrev pub ScriptsGiveScriptEvents : Type 0
ScriptsGiveScriptEvents =
    (lines : List (List ℕ)) (events : List Event) → IsScript lines events → All IsScriptEvent events

-- each event that a line can give stays one with its draw
abbrev pub DrawsKeepScriptEvents : Type 0
DrawsKeepScriptEvents =
    (events : List Event) (noise : List ℕ) (drawn : List Event) → All IsScriptEvent events → Drawn events noise drawn
    → All IsScriptEvent drawn

-- the fill, text, value, message or input of an event is a list of bytes
abbrev pub HoldsBytes : Event → Type 0
HoldsBytes event.Boot = Unit {0}
HoldsBytes event.Off = Unit {0}
HoldsBytes event.Tamper = Unit {0}
HoldsBytes event.Status = Unit {0}
HoldsBytes event.Go = Unit {0}
HoldsBytes (event.Cut count tear) = IsBytes tear.fill
HoldsBytes (event.Order text draw) = IsBytes text
HoldsBytes (event.Put region name value) = IsBytes value
HoldsBytes (event.Get region name) = Unit {0}
HoldsBytes (event.Drop region name) = Unit {0}
HoldsBytes (event.Sign region key message) = IsBytes message
HoldsBytes (event.Call region key input) = IsBytes input

-- the event as a line gives it
abbrev pub undrawn : Event → Event
undrawn (event.Order text draw) = event.Order text (replicate 32 0)
undrawn other = other

-- each event that a line can give, and that holds bytes, is said by some line
abbrev pub ScriptEventsAreSaid : Type 0
ScriptEventsAreSaid = (e : Event) → IsScriptEvent e → HoldsBytes e → (line : List ℕ) × SaysEvent line (undrawn e)

-- one more event gets its draw, and those before it keep theirs
abbrev pub DrawsInTurn : Type 0
DrawsInTurn =
    (noise : List ℕ) (events : List Event) (e : Event)
    → drawn_events noise (events ++ e ∷ []) ≡ drawn_events noise events ++ drawn_event noise events e ∷ []

-- no event is left out, and none added
abbrev pub DrawsKeepCount : Type 0
DrawsKeepCount = (noise : List ℕ) (events : List Event) → length (drawn_events noise events) ≡ length events

-- the line of one event too many is the first that is wrong
abbrev pub TooManyEvents : Type 0
TooManyEvents =
    (lines later : List (List ℕ)) (line : List ℕ) (events : List Event) → IsScript lines events → length events ≡ 65536
    → is_skipped line ≡ false → FailsAtLine IsScript (lines ++ line ∷ later) (length lines + 1)

-- a line after that of an order, even an empty one, is wrong
abbrev pub SecondOrderLine : Type 0
SecondOrderLine =
    (line other : List ℕ) (later : List (List ℕ)) (order : Order) → IsOrderLine (line ∷ []) order
    → FailsAtLine IsOrderLine (line ∷ other ∷ later) 2

-- a line after that of a statement, even an empty one, is wrong
abbrev pub SecondStatementLine : Type 0
SecondStatementLine =
    (line other : List ℕ) (later : List (List ℕ)) (statement : Statement) → IsStatementLine (line ∷ []) statement
    → FailsAtLine IsStatementLine (line ∷ other ∷ later) 2

-- a first line that is not that of an order is wrong, whatever stands after it
abbrev pub FirstOrderLine : Type 0
FirstOrderLine =
    (line : List ℕ) (later : List (List ℕ)) → ((order : Order) → IsOrderLine (line ∷ []) order → ⊥)
    → FailsAtLine IsOrderLine (line ∷ later) 1

-- the numbers of a reply are numbers of a text, its bytes are bytes, and its refusal has words
abbrev pub IsReplyInRange : Reply → Type 0
IsReplyInRange reply.Booted = Unit {0}
IsReplyInRange reply.Off = Unit {0}
IsReplyInRange reply.Tampered = Unit {0}
IsReplyInRange reply.Armed = Unit {0}
IsReplyInRange (reply.At layer) = layer ≤ number_limit
IsReplyInRange (reply.Done number log) = (number ≤ number_limit) × (log ≤ number_limit)
IsReplyInRange reply.Kept = Unit {0}
IsReplyInRange reply.Dropped = Unit {0}
IsReplyInRange (reply.Value value) = IsBytes value
IsReplyInRange reply.Absent = Unit {0}
IsReplyInRange (reply.Signed key index statement) = (key ≤ number_limit) × (index ≤ number_limit) × IsBytes statement
IsReplyInRange (reply.Called answer) = IsBytes answer
IsReplyInRange (reply.Status serial number log one two three) =
    IsBytes serial × (number ≤ number_limit) × (log ≤ number_limit)
IsReplyInRange (reply.Refused number) = (number ≤ number_limit) × HasLine (reply.Refused number)
IsReplyInRange reply.Stopped = Unit {0}
IsReplyInRange reply.NoMemory = Unit {0}

-- no two replies have one line
abbrev pub RepliesDiffer : Type 0
RepliesDiffer = (a b : Reply) → IsReplyInRange a → IsReplyInRange b → reply_line a ≡ reply_line b → a ≡ b

-- the number of a workload and the number of its rounds determine what is drawn for it
abbrev pub OneWorkload : Type 0
OneWorkload =
    (number rounds : ℕ) (v w : List ℕ) (d e : Draws) → v ≡ generator_words number (length v)
    → w ≡ generator_words number (length w)
    → DrawnInOrder v rounds d → DrawnInOrder w rounds e → d ≡ e

-- each refusal has words
abbrev pub RefusalsHaveWords : Type 0
RefusalsHaveWords = (refusal : Refusal) → HasLine (refusal_reply refusal)
