-- Which events a script means, and which draw each command gets. Does a script say all that happens, and nothing else?
use Rattle.std.specs.Prelude.{◌≡◌, ℕ, ◌*◌, ◌-◌, ◌<◌, ◌≤◌, ◌==◌, ◌⊎◌, Bool, true, false, not, List, [], ◌∷◌, ◌++◌}
use Rattle.std.specs.Prelude.{length, map, replicate, codes, All, filter, count_by, IsTrue, IfSome, Option, None, Some}
use Rattle.std.specs.List.{AllZip}
use Rattle.std.specs.Fmt.{decimal}
use Rattle.mb_model.specs.declared.limits.TheConstants.{NAME_LIMIT, MESSAGE_LIMIT, FILL_LIMIT, FLASH_LENGTH}
use Rattle.mb_model.specs.declared.limits.TheConstants.{CUT_LIMIT, DRAW_LENGTH, EVENT_LIMIT, INPUT_LIMIT}
use Rattle.mb_model.specs.declared.event.Event.{Event}
use Rattle.mb_model.specs.declared.event.Event.TheVariants as event
use Rattle.mb_model.specs.declared.event.Tear.{Tear}
use Rattle.mb_model.specs.outside.Texts.{IsHex}
use Rattle.mb_model.specs.chains.Lines.{spaced_words, number_limit}
use Rattle.mb_model.specs.owners.Layers.{is_upper}
use Rattle.mb_model.specs.outside.Pieces.{part}

-- ---- what the words of an event may be

-- The name of a secret: 1 to 32 printed characters of ASCII, and no space. It stands in a line as it is, and may be `-`
-- or begin with `#`.
pub record IsName (name : List ℕ) : Type 0 where
  pub some : 1 ≤ length name
  pub most : length name ≤ NAME_LIMIT
  pub printed : All (λ byte. (0x21 ≤ byte) × (byte ≤ 0x7E)) name

-- the value of a secret, or a message to be signed
abbrev pub FitsMessage : List ℕ → Type 0
FitsMessage bytes = length bytes ≤ MESSAGE_LIMIT

-- the input of a call
abbrev pub FitsInput : List ℕ → Type 0
FitsInput bytes = length bytes ≤ INPUT_LIMIT

-- the word for the key of a call: its number, or a dash if no key signs
abbrev pub called_word : Option ℕ → List ℕ
called_word None = codes "-"
called_word (Some number) = decimal number

-- The tear that keeps `keep` bytes and fills with the bytes `fill`, at most 16. They come first in its field of 16
-- bytes, and zeros after them.
abbrev pub tear_of : ℕ → List ℕ → Tear
tear_of keep fill = record {
  keep = keep;
  fill = fill ++ replicate (FILL_LIMIT - length fill) 0;
  fill_length = length fill;
}

-- a tear keeps at most the length of the flash, and fills with 1 to 16 bytes
pub record IsTear (tear : Tear) (fill : List ℕ) : Type 0 where
  pub keep : tear.keep ≤ FLASH_LENGTH
  pub some : 1 ≤ length fill
  pub most : length fill ≤ FILL_LIMIT
  pub made : tear ≡ tear_of tear.keep fill

-- a power loss is set for one of the next 100,000 write calls
pub record IsCut (count : ℕ) (tear : Tear) (fill : List ℕ) : Type 0 where
  pub least : 1 ≤ count
  pub most : count ≤ CUT_LIMIT
  pub torn : IsTear tear fill

-- An event that a line of a script can give, by the lengths and numbers that its words may have, with any draw of 32
-- bytes. The bytes of a command are arbitrary.
abbrev pub IsScriptEvent : Event → Type 0
IsScriptEvent event.Boot = Unit {0}
IsScriptEvent event.Off = Unit {0}
IsScriptEvent event.Tamper = Unit {0}
IsScriptEvent event.Status = Unit {0}
IsScriptEvent event.Go = Unit {0}
IsScriptEvent (event.Cut count tear) = (fill : List ℕ) × IsCut count tear fill
IsScriptEvent (event.Order text draw) = length draw ≡ DRAW_LENGTH
IsScriptEvent (event.Put region name value) = IsTrue (is_upper region) × IsName name × FitsMessage value
IsScriptEvent (event.Get region name) = IsTrue (is_upper region) × IsName name
IsScriptEvent (event.Drop region name) = IsTrue (is_upper region) × IsName name
IsScriptEvent (event.Sign region key message) = IsTrue (is_upper region) × (key ≤ number_limit) × FitsMessage message
IsScriptEvent (event.Call region key input) =
    IsTrue (is_upper region) × IfSome key (λ number. number ≤ number_limit) × FitsInput input

-- ---- lines

-- how many bytes of the write are kept: given, or left out if none are
abbrev pub IsKept : List (List ℕ) → ℕ → Type 0
IsKept words keep = (words ≡ codes "keep" ∷ decimal keep ∷ []) ⊎ ((words ≡ []) × (keep ≡ 0))

-- the line of a cut
pub record IsCutLine (line : List ℕ) (count : ℕ) (tear : Tear) : Type 0 where
  pub kept_words : List (List ℕ)
  pub fill_word : List ℕ
  pub fill : List ℕ
  pub kept : IsKept kept_words tear.keep
  pub filled : IsHex fill_word fill
  pub allowed : IsCut count tear fill
  pub spelled : line ≡ spaced_words (codes "cut" ∷ decimal count ∷ kept_words ++ codes "fill" ∷ fill_word ∷ [])

-- some word in hexadecimal means the bytes, and the line is these words and then that one
abbrev pub EndsInHex : List ℕ → List (List ℕ) → List ℕ → Type 0
EndsInHex line words bytes = (word : List ℕ) × IsHex word bytes × (line ≡ spaced_words (words ++ word ∷ []))

-- A line means an event. The draw of a command is all zeros here; the noise gives it later.
abbrev pub SaysEvent : List ℕ → Event → Type 0
SaysEvent line event.Boot = line ≡ codes "boot"
SaysEvent line event.Off = line ≡ codes "off"
SaysEvent line event.Tamper = line ≡ codes "tamper"
SaysEvent line event.Status = line ≡ codes "status"
SaysEvent line event.Go = line ≡ codes "go"
SaysEvent line (event.Cut count tear) = IsCutLine line count tear
SaysEvent line (event.Order text draw) = EndsInHex line (codes "command" ∷ []) text × (draw ≡ replicate DRAW_LENGTH 0)
SaysEvent line (event.Put region name value) =
    IsTrue (is_upper region) × IsName name × FitsMessage value
    × EndsInHex line (codes "put" ∷ decimal region ∷ name ∷ []) value
SaysEvent line (event.Get region name) =
    IsTrue (is_upper region) × IsName name × (line ≡ spaced_words (codes "get" ∷ decimal region ∷ name ∷ []))
SaysEvent line (event.Drop region name) =
    IsTrue (is_upper region) × IsName name × (line ≡ spaced_words (codes "drop" ∷ decimal region ∷ name ∷ []))
SaysEvent line (event.Sign region key message) =
    IsTrue (is_upper region) × (key ≤ number_limit) × FitsMessage message
    × EndsInHex line (codes "sign" ∷ decimal region ∷ decimal key ∷ []) message
SaysEvent line (event.Call region key input) =
    IsTrue (is_upper region) × IfSome key (λ number. number ≤ number_limit) × FitsInput input
    × EndsInHex line (codes "call" ∷ decimal region ∷ called_word key ∷ []) input

-- Empty lines, and lines that begin with a number sign, say nothing. They may hold any bytes. A line of spaces is not
-- empty, and is wrong.
abbrev pub is_skipped : List ℕ → Bool
is_skipped [] = true
is_skipped (byte ∷ rest) = byte == 35

-- The lines of a script mean these events: one for each line that is not skipped, in order, at most 65,536.
pub record IsScript (lines : List (List ℕ)) (events : List Event) : Type 0 where
  pub said : AllZip SaysEvent (filter (λ line. not (is_skipped line)) lines) events
  pub most : length events ≤ EVENT_LIMIT

-- ---- draws

-- each item of a list in order, with those before it
unfoldable pub with_before : {A : Type 0} → List A → List (List A × A)
with_before [] = []
with_before (item ∷ rest) = ([], item) ∷ map (λ at. (item ∷ at.0, at.1)) (with_before rest)

abbrev pub is_command : Event → Bool
is_command event.Boot = false
is_command event.Off = false
is_command event.Tamper = false
is_command event.Status = false
is_command event.Go = false
is_command (event.Cut count tear) = false
is_command (event.Order text draw) = true
is_command (event.Put region name value) = false
is_command (event.Get region name) = false
is_command (event.Drop region name) = false
is_command (event.Sign region key message) = false
is_command (event.Call region key input) = false

-- how many of the events are commands
unfoldable pub commands_in : List Event → ℕ
commands_in events = count_by is_command events

-- the event with its draw: the i-th command, from 0, has the bytes 32 i to 32 i + 31 of the noise
abbrev pub drawn_event : List ℕ → List Event → Event → Event
drawn_event noise before (event.Order text draw) =
    event.Order text (part (DRAW_LENGTH * commands_in before) DRAW_LENGTH noise)
drawn_event noise before other = other

-- the events with their draws
unfoldable pub drawn_events : List ℕ → List Event → List Event
drawn_events noise events = map (λ at. drawn_event noise at.0 at.1) (with_before events)

-- the noise has fewer than 32 bytes for each command
abbrev pub IsShortNoise : List Event → List ℕ → Type 0
IsShortNoise events noise = length noise < DRAW_LENGTH * commands_in events

-- the noise has 32 bytes for each command, and gives the events these draws
pub record Drawn (events : List Event) (noise : List ℕ) (drawn : List Event) : Type 0 where
  pub enough : DRAW_LENGTH * commands_in events ≤ length noise
  pub given : drawn ≡ drawn_events noise events
