-- How an entry of the log is spelled, and an entry with its signature. What did the device sign?
use Rattle.std.specs.Prelude.{ℕ, ◌+◌, ◌*◌, ◌==◌, if◌then◌else◌, true, false, List, [], ◌∷◌, Option, Some, None}
use Rattle.std.specs.Int.{w8, w32}
use Rattle.sha2.specs.Sha256.{sha256}
use Rattle.mb_format.specs.Format.{Format}
use Rattle.mb_format.specs.Combinators.{raw, number, between, table, listed, nothing, flag_byte, optional}
use Rattle.mb_format.specs.Combinators.{pair, as_value, as_record, led}
use Rattle.mb_model.specs.declared.limits.TheConstants.{SIGNATURE_LENGTH}
use Rattle.mb_model.specs.declared.key.PublicKey.{PublicKey}
use Rattle.mb_model.specs.declared.layer.Layers.{Layers}
use Rattle.mb_model.specs.declared.layer.Pair.{Pair}
use Rattle.mb_model.specs.declared.order.ChangeKind.{ChangeKind}
use Rattle.mb_model.specs.declared.order.ChangeKind.TheVariants as changes
use Rattle.mb_model.specs.declared.order.KeyKind.{KeyKind}
use Rattle.mb_model.specs.declared.order.KeyKind.TheVariants as kinds
use Rattle.mb_model.specs.declared.entry.Entry.{Entry}
use Rattle.mb_model.specs.declared.entry.Entry.TheVariants.{Birth, Change, NewKey, Succession}
use Rattle.mb_model.specs.declared.entry.SignedEntry.{SignedEntry}
use Rattle.mb_model.specs.records.KeyFormat.{public_key_format}
use Rattle.mb_model.specs.records.LayerFormat.{layers_format}

-- the byte of a change's kind
abbrev pub change_byte : ChangeKind → ℕ
change_byte changes.Establish = 1
change_byte changes.Surrender = 2
change_byte changes.Load = 3
change_byte changes.Emergency = 4

abbrev pub change_rows : List (ℕ × ChangeKind)
change_rows = (1, changes.Establish) ∷ (2, changes.Surrender) ∷ (3, changes.Load) ∷ (4, changes.Emergency) ∷ []

-- the byte of the kind of a region's key
abbrev pub key_kind_byte : KeyKind → ℕ
key_kind_byte kinds.Epoch = 0
key_kind_byte kinds.Configuration = 1

abbrev pub key_kind_rows : List (ℕ × KeyKind)
key_kind_rows = (0, kinds.Epoch) ∷ (1, kinds.Configuration) ∷ []

unfoldable pub key_kind_format : Format KeyKind
key_kind_format = table w8 key_kind_rows key_kind_byte

-- the byte of a subset of layers or regions 2 and 3: bit 0 for 2, bit 1 for 3
abbrev pub pair_byte : Pair → ℕ
pair_byte some = flag_byte some.two + 2 * flag_byte some.three

abbrev pub pair_rows : List (ℕ × Pair)
pair_rows =
    (0, record { two = false; three = false })
    ∷ (1, record { two = true; three = false })
    ∷ (2, record { two = false; three = true })
    ∷ (3, record { two = true; three = true })
    ∷ []

unfoldable pub pair_format : Format Pair
pair_format = table w8 pair_rows pair_byte

-- The tag that an entry begins with; that of a birth or change gives its version too. So an old entry is the bytes that
-- were signed. A version of the whole log could not be raised without signing it anew; read as new ones, old entries
-- would have no signature that verifies.
pub data EntryTag : Type 0 where
  birth_tag change_tag : ℕ → EntryTag
  new_key_tag succession_tag : EntryTag

-- the byte of a tag; a version other than 1 and 2 has no row in `entry_rows`, so no entry of such a version is spelled
abbrev pub entry_byte : EntryTag → ℕ
entry_byte (birth_tag version) = if version == 1 then 0 else 16
entry_byte (change_tag version) = if version == 1 then 1 else 17
entry_byte new_key_tag = 2
entry_byte succession_tag = 3

abbrev pub entry_rows : List (ℕ × EntryTag)
entry_rows =
    (0, birth_tag 1)
    ∷ (1, change_tag 1)
    ∷ (2, new_key_tag)
    ∷ (3, succession_tag)
    ∷ (16, birth_tag 2)
    ∷ (17, change_tag 2)
    ∷ []

abbrev pub entry_tag : Entry → EntryTag
entry_tag (Birth version serial key layers) = birth_tag version
entry_tag (Change version position number kind layer cosigned layers kept next) = change_tag version
entry_tag (NewKey position number key_number layer kind key) = new_key_tag
entry_tag (Succession position key) = succession_tag

-- the fields of an entry that is a birth
abbrev pub birth_in : Entry → Option (ℕ × (List ℕ × (PublicKey × Layers)))
birth_in (Birth version serial key layers) = Some (version, (serial, (key, layers)))
birth_in _ = None

-- a birth: its serial, the first device key, and the layers; the tag gave its version
unfoldable pub birth_format : ℕ → Format Entry
birth_format version = as_value
    (pair (nothing version) (pair (raw 16) (pair public_key_format (layers_format version))))
    (λ (its_version, (serial, (key, layers))). Birth its_version serial key layers)
    birth_in

-- the fields of an entry that is a change
abbrev pub change_in : Entry
    → Option (ℕ × (ℕ × (ℕ × (ChangeKind × (ℕ × (Pair × (Pair × (Layers × Option PublicKey))))))))
change_in (Change version position number kind layer cosigned layers kept next) =
    Some (version, (position, (number, (kind, (layer, (cosigned, (kept, (layers, next))))))))
change_in _ = None

-- a change: its position and number, its kind and layer, who countersigned, which regions are kept, the layers
-- afterwards, and the next device key after a byte that says whether there is one; the tag gave its version
unfoldable pub change_format : ℕ → Format Entry
change_format version = as_value
    (pair (nothing version)  -- version
    (pair (number w32)  -- position
    (pair (number w32)  -- number
    (pair (table w8 change_rows change_byte)  -- kind
    (pair (between w8 1 3)  -- layer
    (pair pair_format  -- cosigned
    (pair pair_format  -- kept
    (pair (layers_format version)  -- layers
    (optional public_key_format)))))))))  -- next
    (λ (its_version, (position, (number, (kind, (layer, (cosigned, (kept, (layers, next)))))))).
    Change its_version position number kind layer cosigned layers kept next)
    change_in

-- the fields of an entry that makes a new key
abbrev pub new_key_in : Entry → Option (ℕ × (ℕ × (ℕ × (ℕ × (KeyKind × PublicKey)))))
new_key_in (NewKey position number key_number layer kind key) =
    Some (position, (number, (key_number, (layer, (kind, key)))))
new_key_in _ = None

-- a new key: the position and number of its entry, the key's number, its layer and kind, the key
unfoldable pub new_key_format : Format Entry
new_key_format = as_value
    (pair (number w32)  -- position
    (pair (number w32)  -- number
    (pair (number w32)  -- key_number
    (pair (between w8 2 3)  -- layer
    (pair key_kind_format  -- kind
    public_key_format)))))  -- key
    (λ (position, (number, (key_number, (layer, (kind, key))))). NewKey position number key_number layer kind key)
    new_key_in

-- the fields of an entry that is a succession
abbrev pub succession_in : Entry → Option (ℕ × PublicKey)
succession_in (Succession position key) = Some (position, key)
succession_in _ = None

-- a succession: its position and the next device key
unfoldable pub succession_format : Format Entry
succession_format = as_value (pair (number w32) public_key_format)
    (λ (position, key). Succession position key)
    succession_in

abbrev pub entry_by : EntryTag → Format Entry
entry_by (birth_tag version) = birth_format version
entry_by (change_tag version) = change_format version
entry_by new_key_tag = new_key_format
entry_by succession_tag = succession_format

unfoldable pub entry_format : Format Entry
entry_format = led (listed w8 entry_rows entry_byte) entry_tag entry_by

-- the hash of an entry, without its signature
abbrev pub entry_hash : Entry → List ℕ
entry_hash entry = sha256 (entry_format.spelling entry)

-- a signature of types 5 and 3 (RFC 8554, section 5.4)
abbrev pub signature_format : Format (List ℕ)
signature_format = raw SIGNATURE_LENGTH

-- an entry and its signature
unfoldable pub signed_entry_format : Format SignedEntry
signed_entry_format = as_record (pair entry_format signature_format)
    (λ (entry, signature). record { entry = entry; signature = signature })
    (λ signed. (signed.entry, signed.signature))
