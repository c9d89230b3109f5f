-- What the commands `register` and `devices` do. Does a new register have no device, and is each device shown?
use Rattle.std.specs.Prelude.{ℕ, List, [], ◌∷◌, length, map, codes, Option, None, Some}
use Rattle.std.specs.Fmt.{decimal}
use Rattle.mb_model.specs.chains.Lines.{spaced_words, hex_word, text_of}
use Rattle.mb_model_commands.specs.declared.role.Role.TheVariants as role
use Rattle.mb_model_commands.specs.Commands.{Command, read, write, print}
use Rattle.mb_fleet.specs.declared.row.Row.{Row}
use Rattle.mb_fleet.specs.RegisterFormat.{register_format}
use Rattle.mb_fleet.specs.Laws.{register_input}

-- the name of the file of `register`
pub record RegisterNames : Type 0 where
  pub out : List ℕ

-- the name of the file of `devices`
pub record DevicesNames : Type 0 where
  pub register : List ℕ

-- ---- what is shown

-- the hash of a layer's code, or a dash if it has none
abbrev pub hash_word : Option (List ℕ) → List ℕ
hash_word None = codes "-"
hash_word (Some hash) = hex_word hash

-- The line of a device: its serial, how many entries it has shown, its configuration number, and the code of each
-- layer. The hashes of the entries are not shown: they say nothing to a reader, and make most of a register.
abbrev pub row_line : Row → List ℕ
row_line row = spaced_words (
    codes "device" ∷ hex_word row.serial ∷ decimal (length row.hashes) ∷ decimal row.number
    ∷ hash_word row.code.one ∷ hash_word row.code.two ∷ hash_word row.code.three ∷ [])

-- how many devices there are, and the line of each, in the order of the rows
abbrev pub devices_lines : List Row → List (List ℕ)
devices_lines rows = spaced_words (codes "devices" ∷ decimal (length rows) ∷ []) ∷ map row_line rows

-- ---- the commands

-- a register without devices is written, and what it shows is printed
unfoldable pub register : RegisterNames → Command
register names =
    write (record { role = role.Out; name = names.out; bytes = register_format.spelling [] })
    (print (text_of (devices_lines [])))

-- the register is read, and what it shows is printed
unfoldable pub devices : DevicesNames → Command
devices names =
    read (register_input names.register) (λ rows.
    print (text_of (devices_lines rows)))
