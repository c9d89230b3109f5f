-- Laws of what a log says of one key, entry by entry. Can a reader that goes over a log once, with a flag, find the
-- key's lives?
use Rattle.std.specs.Prelude.{◌≡◌, ℕ, ◌==◌, true, not, ◌&&◌, List, [], ◌∷◌, ◌++◌, None, Some, if◌then◌else◌}
use Rattle.mb_model.specs.declared.entry.Entry.{Entry}
use Rattle.mb_model.specs.declared.entry.Entry.TheVariants.{Birth, Change, NewKey, Succession}
use Rattle.mb_model.specs.declared.state.Configuration.{Configuration}
use Rattle.mb_model.specs.owners.Log.{layers_of, RuledLog}
use Rattle.mb_model.specs.owners.Lives.{ends_keys, Alive, configuration, configurations_opened_by, lives_of}
use Rattle.mb_model.specs.chains.Acceptance.{KeyEntry, key_in, key_of, is_alive}

-- the first configuration of the key with this number, if an entry after a log makes it
abbrev pub first_life : ℕ → List Entry → Entry → List Configuration
first_life n log (Birth version serial key layers) = []
first_life n log (Change version position number kind layer cosigned layers kept next) = []
first_life n log (NewKey position number key_number layer kind key) =
    if key_number == n then configuration layer number (layers_of log) ∷ [] else []
first_life n log (Succession position key) = []

-- a key that is not made has no lives
abbrev pub NoLivesUnmade : Type 0
NoLivesUnmade = (log : List Entry) (n : ℕ) → key_of log n ≡ None → lives_of log n ≡ []

-- while a key is not made, a log with one more entry says of it what that entry says
abbrev pub FirstSight : Type 0
FirstSight =
    (log : List Entry) (entry : Entry) (n : ℕ) → key_of log n ≡ None → key_of (log ++ entry ∷ []) n ≡ key_in n entry

-- while a key is not made, the next entry gives its first configuration or none
abbrev pub FirstLife : Type 0
FirstLife =
    (log : List Entry) (entry : Entry) (n : ℕ) → key_of log n ≡ None
    → lives_of (log ++ entry ∷ []) n ≡ first_life n log entry

-- a key is alive right after the entry that makes it
abbrev pub FirstAlive : Type 0
FirstAlive =
    (log : List Entry) (entry : Entry) (n : ℕ) (made : KeyEntry) → key_of log n ≡ None → key_in n entry ≡ Some made
    → is_alive (log ++ entry ∷ []) n made.layer ≡ true

-- once a key is made, no later entry says otherwise
abbrev pub StaysMade : Type 0
StaysMade =
    (log : List Entry) (entry : Entry) (n : ℕ) (made : KeyEntry) → RuledLog (log ++ entry ∷ [])
    → key_of log n ≡ Some made
    → key_of (log ++ entry ∷ []) n ≡ Some made

-- a key that is made is alive until an entry ends it
abbrev pub StaysAlive : Type 0
StaysAlive =
    (log : List Entry) (entry : Entry) (n : ℕ) (made : KeyEntry) → RuledLog (log ++ entry ∷ [])
    → key_of log n ≡ Some made
    → is_alive (log ++ entry ∷ []) n made.layer
    ≡ (is_alive log n made.layer && not (ends_keys made.kind made.layer entry))

-- a key that is made lives on in what entries open while it is alive
abbrev pub LivesOn : Type 0
LivesOn =
    (log : List Entry) (entry : Entry) (n : ℕ) (made : KeyEntry) → RuledLog (log ++ entry ∷ [])
    → key_of log n ≡ Some made
    → lives_of (log ++ entry ∷ []) n
    ≡ lives_of log n
    ++ (if is_alive log n made.layer && not (ends_keys made.kind made.layer entry)
    then configurations_opened_by made.layer entry else [])

-- the log holds the entry of a key that is made
abbrev pub MadeKeysStandInTheLog : Type 0
MadeKeysStandInTheLog =
    (log : List Entry) (n : ℕ) (made : KeyEntry) → key_of log n ≡ Some made
    → (before : List Entry) × (position : ℕ) × (number : ℕ) × (later : List Entry)
    × (log ≡ before ++ NewKey position number n made.layer made.kind made.key ∷ later)

-- a key that is flagged is alive
abbrev pub FlaggedKeysLive : Type 0
FlaggedKeysLive =
    (log : List Entry) (n : ℕ) (made : KeyEntry) → RuledLog log → key_of log n ≡ Some made
    → is_alive log n made.layer ≡ true
    → Alive log n made.layer made.kind made.key

-- a key that is alive is flagged
abbrev pub LivingKeysAreFlagged : Type 0
LivingKeysAreFlagged =
    (log : List Entry) (n : ℕ) (made : KeyEntry) → Alive log n made.layer made.kind made.key
    → is_alive log n made.layer ≡ true
