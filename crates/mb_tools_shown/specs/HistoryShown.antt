-- How the history of a device is told, entry by entry. Is each change there, with the layers that it leaves?
use Rattle.std.specs.Prelude.{ℕ, Bool, List, [], ◌∷◌, ◌++◌, codes, flat_map, Option, Some}
use Rattle.std.specs.Prelude.{unwrap_or, if◌then◌else◌}
use Rattle.std.specs.Fmt.{decimal}
use Rattle.mb_model.specs.declared.entry.Chain.{Chain}
use Rattle.mb_model.specs.declared.entry.Entry.{Entry}
use Rattle.mb_model.specs.declared.entry.Entry.TheVariants.{Birth, Change, NewKey, Succession}
use Rattle.mb_model.specs.declared.entry.Said.{Said}
use Rattle.mb_model.specs.declared.entry.Said.TheVariants.{Message, Answer}
use Rattle.mb_model.specs.declared.entry.Statement.{Statement}
use Rattle.mb_model.specs.declared.layer.Pair.{Pair}
use Rattle.mb_model.specs.declared.order.ChangeKind.{ChangeKind}
use Rattle.mb_model.specs.declared.order.ChangeKind.TheVariants as kinds
use Rattle.mb_model.specs.declared.order.KeyKind.{KeyKind}
use Rattle.mb_model.specs.owners.Log.{entries_of, serial_of}
use Rattle.mb_model.specs.chains.Acceptance.{is_alive}
use Rattle.mb_model.specs.chains.Drafts.{kind_word}
use Rattle.mb_model.specs.chains.Lines.{spaced_words, hex_word}
use Rattle.mb_model.specs.chains.Listing.{life_word}
use Rattle.mb_tools_shown.specs.LayersShown.{layers_shown}
use Rattle.mb_tools_shown.specs.StateShown.{serial_shown}

-- ---- words

-- the word for what a change does to its layer, as in a draft
abbrev pub change_word : ChangeKind → List ℕ
change_word kinds.Establish = codes "establish"
change_word kinds.Surrender = codes "surrender"
change_word kinds.Load = codes "load"
change_word kinds.Emergency = codes "emergency"

-- the word for a set of layers 2 and 3, or of their regions: their numbers, or a dash for none
abbrev pub pair_word : Pair → List ℕ
pair_word pair =
    if pair.two then (if pair.three then codes "2,3" else codes "2")
    else (if pair.three then codes "3" else codes "-")

-- ---- entries

-- the line of a birth
abbrev pub birth_line : List ℕ
birth_line = spaced_words (codes "entry" ∷ codes "0" ∷ codes "birth" ∷ [])

-- the line of a change: how many entries stand before it, what was done to which layer, the configuration number from
-- there on, whose owners countersigned, and which regions were kept
abbrev pub change_line : ℕ → ChangeKind → ℕ → ℕ → Pair → Pair → List ℕ
change_line position kind layer number cosigned kept =
    spaced_words (codes "entry" ∷ decimal position ∷ change_word kind ∷ decimal layer
    ∷ codes "configuration" ∷ decimal number ∷ codes "countersigned" ∷ pair_word cosigned
    ∷ codes "kept" ∷ pair_word kept ∷ [])

-- the line of a new key: how many entries stand before it, the key's number and kind, and its layer
abbrev pub new_key_line : ℕ → ℕ → KeyKind → ℕ → List ℕ
new_key_line position key_number kind layer =
    spaced_words (codes "entry" ∷ decimal position ∷ codes "newkey" ∷ decimal key_number ∷ kind_word kind
    ∷ codes "layer" ∷ decimal layer ∷ [])

-- the line of a succession of the device key
abbrev pub succession_line : ℕ → List ℕ
succession_line position = spaced_words (codes "entry" ∷ decimal position ∷ codes "succession" ∷ [])

-- the lines of an entry; after a birth or a change stand the layers that it leaves
abbrev pub entry_lines : Entry → List (List ℕ)
entry_lines (Birth version serial key layers) = birth_line ∷ layers_shown layers
entry_lines (Change version position number kind layer cosigned layers kept next) =
    change_line position kind layer number cosigned kept ∷ layers_shown layers
entry_lines (NewKey position number key_number layer kind key) = new_key_line position key_number kind layer ∷ []
entry_lines (Succession position key) = succession_line position ∷ []

-- ---- keys and the statement

-- the line of a region's key: whether it is alive at the end
abbrev pub life_line : ℕ → KeyKind → ℕ → Bool → List ℕ
life_line key_number kind layer alive =
    spaced_words (codes "key" ∷ decimal key_number ∷ kind_word kind ∷ codes "layer" ∷ decimal layer
    ∷ life_word alive ∷ [])

-- the line of the key that an entry of this log makes in a region
abbrev pub life_lines : List Entry → Entry → List (List ℕ)
life_lines log (Birth version serial key layers) = []
life_lines log (Change version position number kind layer cosigned layers kept next) = []
life_lines log (NewKey position number key_number layer kind key) =
    life_line key_number kind layer (is_alive log key_number layer) ∷ []
life_lines log (Succession position key) = []

-- the words of a statement of this key and configuration: its message; or the hash of a call's input, and the answer
abbrev pub signed_words : ℕ → ℕ → Said → List (List ℕ)
signed_words signer number (Message message) =
    codes "statement" ∷ decimal signer ∷ decimal number ∷ hex_word message ∷ []
signed_words signer number (Answer input answer) =
    codes "called" ∷ decimal signer ∷ decimal number ∷ hex_word input ∷ hex_word answer ∷ []

-- the line of a statement: the key that signed it, its configuration, and what it says
abbrev pub signed_line : ℕ → Statement → List ℕ
signed_line signer statement = spaced_words (signed_words signer statement.number statement.said)

abbrev pub signed_lines : Option Statement → Option ℕ → List (List ℕ)
signed_lines (Some statement) (Some signer) = signed_line signer statement ∷ []
signed_lines _ _ = []

-- ---- the whole

-- The lines of a chain whose statement, if it has one, this key signed: the serial, the entries, the keys in the order
-- of their numbers, and the statement.
unfoldable pub history_shown : Chain → Option ℕ → List (List ℕ)
history_shown chain signer =
    serial_shown (unwrap_or (serial_of (entries_of chain.entries)) [])
    ∷ flat_map entry_lines (entries_of chain.entries)
    ++ flat_map (life_lines (entries_of chain.entries)) (entries_of chain.entries)
    ++ signed_lines chain.statement signer
