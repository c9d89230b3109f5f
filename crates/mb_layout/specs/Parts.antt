-- The bytes of parts of records, as the code writes them one after another. What stands after the numbers of an entry?
use Rattle.std.specs.Prelude.{ℕ, Bool, true, false, List, ◌++◌, Option}
use Rattle.std.specs.Int.{w8, w32}
use Rattle.mb_format.specs.Combinators.{number, optional}
use Rattle.mb_model.specs.declared.key.PublicKey.{PublicKey}
use Rattle.mb_model.specs.declared.layer.Layers.{Layers}
use Rattle.mb_model.specs.declared.layer.Pair.{Pair}
use Rattle.mb_model.specs.declared.order.ChangeKind.{ChangeKind}
use Rattle.mb_model.specs.declared.order.KeyKind.{KeyKind}
use Rattle.mb_model.specs.declared.stored.Root.{Root}
use Rattle.mb_model.specs.records.KeyFormat.{public_key_format, key_seed_format}
use Rattle.mb_model.specs.records.LayerFormat.{layers_format}
use Rattle.mb_model.specs.records.EntryFormat.{change_byte, pair_format, key_kind_format}
use Rattle.mb_model.specs.records.RootFormat.{pending_format}

-- the regions kept, the layers and the next key of a change, in a version
abbrev pub kept_bytes : ℕ → Pair → Layers → Option PublicKey → List ℕ
kept_bytes version kept layers next =
    pair_format.spelling kept ++ ((layers_format version).spelling layers ++ (optional public_key_format).spelling next)

-- all of a change after its numbers, in a version
abbrev pub changed_bytes : ℕ → ChangeKind → ℕ → Pair → Pair → Layers → Option PublicKey → List ℕ
changed_bytes version kind layer cosigned kept layers next =
    (number w8).spelling (change_byte kind)
    ++ ((number w8).spelling layer ++ (pair_format.spelling cosigned ++ kept_bytes version kept layers next))

-- all of a new key after its numbers
abbrev pub made_key_bytes : ℕ → ℕ → KeyKind → PublicKey → List ℕ
made_key_bytes key_number layer kind key =
    (number w32).spelling key_number
    ++ ((number w8).spelling layer ++ (key_kind_format.spelling kind ++ public_key_format.spelling key))

-- the device key of a root, its uses and the pending work
abbrev pub root_key_bytes : Root → List ℕ
root_key_bytes root =
    key_seed_format.spelling root.device
    ++ ((number w8).spelling root.uses ++ (optional pending_format).spelling root.pending)

-- what a layer with code has, as a byte
abbrev pub loaded_byte : Bool → ℕ
loaded_byte false = 3
loaded_byte true = 7
