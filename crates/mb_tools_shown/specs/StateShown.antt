-- What is shown of a device that is alive. Does a seed or the value of a secret stand there?
use Rattle.std.specs.Prelude.{ℕ, ◌-◌, Bool, true, false, List, [], ◌∷◌, ◌++◌, length, map, codes}
use Rattle.std.specs.Fmt.{decimal}
use Rattle.mb_model.specs.declared.limits.TheConstants.{ENTRY_LIMIT, KEY_USES}
use Rattle.mb_model.specs.declared.entry.SignedEntry.{SignedEntry}
use Rattle.mb_model.specs.declared.region.RegionKey.{RegionKey}
use Rattle.mb_model.specs.declared.region.Secret.{Secret}
use Rattle.mb_model.specs.declared.state.State.{State}
use Rattle.mb_model.specs.owners.Log.{entries_of, number_of}
use Rattle.mb_model.specs.chains.Drafts.{kind_word}
use Rattle.mb_model.specs.chains.Lines.{spaced_words, hex_word}
use Rattle.mb_tools_shown.specs.LayersShown.{layers_shown}

-- the line of a serial
abbrev pub serial_shown : List ℕ → List ℕ
serial_shown serial = spaced_words (codes "serial" ∷ hex_word serial ∷ [])

-- the line of the configuration number
abbrev pub number_shown : List SignedEntry → List ℕ
number_shown log = spaced_words (codes "number" ∷ decimal (number_of (entries_of log)) ∷ [])

-- the line of the log's length: how many entries there are, and how many there can be
abbrev pub length_shown : List SignedEntry → List ℕ
length_shown log = spaced_words (codes "length" ∷ decimal (length log) ∷ decimal ENTRY_LIMIT ∷ [])

-- the line of whether work is pending, which the next boot does
abbrev pub pending_shown : Bool → List ℕ
pending_shown true = codes "pending 1"
pending_shown false = codes "pending 0"

-- how often a key has signed, and how often it still can
abbrev pub uses_words : ℕ → List (List ℕ)
uses_words uses = decimal uses ∷ decimal (KEY_USES - uses) ∷ []

-- the line of the device key
abbrev pub device_shown : ℕ → List ℕ
device_shown uses = spaced_words (codes "device" ∷ uses_words uses)

-- the line of a secret of a region: its name, and how many bytes its value has
abbrev pub secret_shown : ℕ → Secret → List ℕ
secret_shown region secret =
    spaced_words (codes "secret" ∷ decimal region ∷ secret.name ∷ decimal (length secret.value) ∷ [])

-- the line of a key of a region: its number, its kind, the layer of the region, and its uses
abbrev pub key_shown : ℕ → RegionKey → List ℕ
key_shown region key =
    spaced_words (codes "key" ∷ decimal key.number ∷ kind_word key.kind ∷ codes "layer" ∷ decimal region
    ∷ uses_words key.uses)

-- the lines before those of the layers
abbrev pub counts_shown : Bool → State → List (List ℕ)
counts_shown pending state =
    serial_shown state.serial ∷ number_shown state.log ∷ length_shown state.log ∷ pending_shown pending
    ∷ device_shown state.uses ∷ []

-- The lines that show a state, whose memory has pending work or has none. Secrets and keys stand in the order in which
-- their region has them, those of region 2 first.
unfoldable pub state_shown : Bool → State → List (List ℕ)
state_shown pending state =
    counts_shown pending state ++ layers_shown state.layers
    ++ map (secret_shown 2) state.two.secrets ++ map (secret_shown 3) state.three.secrets
    ++ map (key_shown 2) state.two.keys ++ map (key_shown 3) state.three.keys
