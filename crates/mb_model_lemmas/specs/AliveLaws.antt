-- Laws of the keys that are alive by a log and of their configurations, entry by entry. Can a reader that goes over a
-- log once find them?
use Rattle.std.specs.Prelude.{◌≡◌, ℕ, ◌<◌, ◌≤◌, ◌==◌, Bool, false, not, List, [], ◌∷◌, ◌++◌, filter, All, AllPairs}
use Rattle.std.specs.Prelude.{Contains, IsTrue, if◌then◌else◌}
use Rattle.std.specs.List.{list_all}
use Rattle.mb_model.specs.declared.key.PublicKey.{PublicKey}
use Rattle.mb_model.specs.declared.order.KeyKind.{KeyKind}
use Rattle.mb_model.specs.declared.entry.Entry.{Entry}
use Rattle.mb_model.specs.declared.entry.Entry.TheVariants.{Birth, Change, NewKey, Succession}
use Rattle.mb_model.specs.declared.state.Configuration.{Configuration}
use Rattle.mb_model.specs.owners.Layers.{is_upper}
use Rattle.mb_model.specs.owners.Log.{layers_of, keys_made_by, RuledLog}
use Rattle.mb_model.specs.owners.Lives.{ends_keys, Alive, configuration, configurations_opened_by, lives_of, MadeKey}
use Rattle.mb_model.specs.owners.Lives.{alive_keys}

-- the entry does not end the key, which is one of layer L
abbrev pub goes_on : ℕ → Entry → MadeKey → Bool
goes_on L entry key = not (ends_keys key.kind L entry)

-- the key that an entry makes in the region of layer L
abbrev pub made_by : ℕ → Entry → List MadeKey
made_by L (Birth version serial key layers) = []
made_by L (Change version position number kind layer cosigned layers kept next) = []
made_by L (NewKey position number key_number layer kind key) =
    if layer == L then record { number = key_number; kind = kind; key = key } ∷ [] else []
made_by L (Succession position key) = []

-- the entry makes the region key with this number
abbrev pub makes : ℕ → Entry → Bool
makes n (Birth version serial key layers) = false
makes n (Change version position number kind layer cosigned layers kept next) = false
makes n (NewKey position number key_number layer kind key) = key_number == n
makes n (Succession position key) = false

-- no entry of the log makes a region key with this number
abbrev pub IsUnmade : List Entry → ℕ → Type 0
IsUnmade log n = All (λ entry. makes n entry ≡ false) log

-- before the first entry no key is alive
abbrev pub NoKeyAtFirst : Type 0
NoKeyAtFirst = (L : ℕ) → alive_keys [] L ≡ []

-- one more entry leaves the keys that it does not end, and after them stands the one that it makes
abbrev pub AliveAfterOneMore : Type 0
AliveAfterOneMore =
    (log : List Entry) (entry : Entry) (L : ℕ)
    → alive_keys (log ++ entry ∷ []) L ≡ filter (goes_on L entry) (alive_keys log L) ++ made_by L entry

-- each key that lives is listed
abbrev pub LivingKeysAreListed : Type 0
LivingKeysAreListed =
    (log : List Entry) (n L : ℕ) (kind : KeyKind) (key : PublicKey) → Alive log n L kind key
    → Contains (alive_keys log L) (record { number = n; kind = kind; key = key })

-- each key that is listed lives
abbrev pub ListedKeysLive : Type 0
ListedKeysLive =
    (log : List Entry) (n L : ℕ) (kind : KeyKind) (key : PublicKey)
    → Contains (alive_keys log L) (record { number = n; kind = kind; key = key }) → Alive log n L kind key

-- the keys alive are listed by increasing numbers
abbrev pub AliveNumbersIncrease : Type 0
AliveNumbersIncrease =
    (log : List Entry) (L : ℕ) → RuledLog log → AllPairs (λ a b. a.number < b.number) (alive_keys log L)

-- the next key's number is above those of all keys that are alive
abbrev pub AliveNumbersAreBelowTheNext : Type 0
AliveNumbersAreBelowTheNext =
    (log : List Entry) (L : ℕ) → RuledLog log → All (λ key. key.number < keys_made_by log) (alive_keys log L)

-- no entry has made a key with the next key's number, or with one above
abbrev pub HighNumbersAreUnmade : Type 0
HighNumbersAreUnmade = (log : List Entry) (n : ℕ) → RuledLog log → keys_made_by log ≤ n → IsUnmade log n

-- a key that no entry makes has lived in no configuration
abbrev pub UnmadeKeysHaveNoLives : Type 0
UnmadeKeysHaveNoLives = (log : List Entry) (n : ℕ) → IsUnmade log n → lives_of log n ≡ []

-- A key that a log's last entry makes has one configuration: that entry's number, with the layers that stand.
abbrev pub LivesOfANewKey : Type 0
LivesOfANewKey =
    (log : List Entry) (position number n L : ℕ) (kind : KeyKind) (key : PublicKey)
    → RuledLog (log ++ NewKey position number n L kind key ∷ [])
    → lives_of (log ++ NewKey position number n L kind key ∷ []) n ≡ configuration L number (layers_of log) ∷ []

-- A later entry adds the configuration that it opens, if neither it nor one since the key's own ended the key.
abbrev pub LivesAfterOneMore : Type 0
LivesAfterOneMore =
    (log before later : List Entry) (position number n L : ℕ) (kind : KeyKind) (key : PublicKey) (entry : Entry)
    → log ≡ before ++ NewKey position number n L kind key ∷ later → RuledLog (log ++ entry ∷ [])
    → lives_of (log ++ entry ∷ []) n
    ≡ lives_of log n
    ++ (if list_all (λ e. not (ends_keys kind L e)) (later ++ entry ∷ []) then configurations_opened_by L entry else [])

-- A key that is alive lives in the layers that stand: its last configuration has these, up to its own.
abbrev pub AliveKeysLiveNow : Type 0
AliveKeysLiveNow =
    (log : List Entry) (n L : ℕ) (kind : KeyKind) (key : PublicKey) → RuledLog log → IsTrue (is_upper L)
    → Alive log n L kind key
    → (earlier : List Configuration) × (number : ℕ)
    × (lives_of log n ≡ earlier ++ configuration L number (layers_of log) ∷ [])
