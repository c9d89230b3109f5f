-- A reader that is fed an order in pieces. What do its answers say of the bytes that it was fed so far?
use Rattle.std.specs.Prelude.{◌≡◌, ℕ, List, Result, Ok, Err}
use Rattle.mb_model.specs.records.OrderFormat.{order_format}
use Rattle.mb_command.specs.declared.reader.Taken.{Taken}
use Rattle.mb_command.specs.declared.reader.Taken.TheVariants.{Begun, Ended}
use Rattle.mb_command.specs.declared.reader.OrderReader.{OrderReader}
use Rattle.mb_bytes.specs.declared.end.ReadEnd.{ReadEnd}
use Rattle.mb_bytes.specs.declared.end.ReadEnd.TheVariants.{Bad, NoMemory}
use Rattle.mb_command.specs.Beginnings.{FailsHowever}

-- the answer to a piece that makes these the bytes fed: Bad exactly if they fail whatever follows
abbrev pub Feeds : List ℕ → Result (Unit {0}) ReadEnd → Type 0
Feeds fed (Ok u) = (at : ℕ) → FailsHowever order_format fed at → ⊥
Feeds fed (Err (Bad at)) = FailsHowever order_format fed at
Feeds fed (Err NoMemory) = Unit {0}

-- what is kept of these bytes: all of them, or the error that answered them
abbrev pub IsKeptOf : Taken → List ℕ → Type 0
IsKeptOf (Begun begun) fed = begun.text.items ≡ fed
IsKeptOf (Ended end) fed = Feeds fed (Err end)

-- the reader was fed these bytes, and no others
abbrev pub WasFed : OrderReader → List ℕ → Type 0
WasFed reader fed = IsKeptOf reader.taken fed

-- the reader has answered a piece with this error
abbrev pub HasEnded : OrderReader → ReadEnd → Type 0
HasEnded reader end = reader.taken ≡ Ended end
