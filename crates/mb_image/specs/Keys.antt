-- Keys as they are gathered from a log. Are they what the log's entries say?
use Rattle.std.specs.Prelude.{List, map}
use Rattle.mb_model.specs.owners.Lives as lives
use Rattle.mb_image.specs.declared.alive.MadeKey.{MadeKey}

-- what an entry says of a key
abbrev pub as_listed : MadeKey → lives.MadeKey
as_listed made = record { number = made.number; kind = made.kind; key = made.key }

abbrev pub listed_keys : List MadeKey → List lives.MadeKey
listed_keys keys = map as_listed keys
