-- What a device has shown, as a row of a register. Does the row distinguish two histories of a device?
use Rattle.std.specs.Prelude.{◌≡◌, ℕ, ◌==◌, List, map, Option, None, Some, if◌then◌else◌}
use Rattle.std.specs.Option.{option_map}
use Rattle.mb_model.specs.declared.layer.Layer.{Layer}
use Rattle.mb_model.specs.declared.layer.Layers.{Layers}
use Rattle.mb_model.specs.declared.entry.Entry.{Entry}
use Rattle.mb_model.specs.owners.Log.{number_of, layers_of, serial_of}
use Rattle.mb_model.specs.records.EntryFormat.{entry_hash}
use Rattle.mb_fleet.specs.declared.row.CodeHashes.{CodeHashes}
use Rattle.mb_fleet.specs.declared.row.Row.{Row}
use Rattle.mb_fleet.specs.Order.{IsAscending}

-- the hash of a layer's code, if it has code
abbrev pub hash_of_code : Layer → Option (List ℕ)
hash_of_code layer = option_map (λ code. code.hash) layer.code

abbrev pub code_hashes : Layers → CodeHashes
code_hashes layers =
    record { one = hash_of_code layers.one; two = hash_of_code layers.two; three = hash_of_code layers.three }

-- The row of the device whose log this is: its serial, its configuration number, its code, and the hash of each entry
-- in order. A log without a birth has none.
pub record IsRowOf (log : List Entry) (row : Row) : Type 0 where
  pub serial : serial_of log ≡ Some row.serial
  pub number : row.number ≡ number_of log
  pub code : row.code ≡ code_hashes (layers_of log)
  pub hashes : row.hashes ≡ map entry_hash log

-- the hash of the code of layer 1, 2 or 3; no other layer has code
abbrev pub code_at : ℕ → Row → Option (List ℕ)
code_at layer row =
    if layer == 1 then row.code.one
    else if layer == 2 then row.code.two else if layer == 3 then row.code.three else None

abbrev pub serial_of_row : Row → List ℕ
serial_of_row row = row.serial

-- rows stand in ascending serials, so that no two have one serial
abbrev pub AreOrdered : List Row → Type 0
AreOrdered rows = IsAscending serial_of_row rows
