-- What a list of entries says of one key of a region. Is it alive, and where did it live?
use Rattle.std.specs.Prelude.{◌≡◌, ℕ, List, Some}
use Rattle.std.specs.Option.{option_map}
use Rattle.mb_model.specs.declared.entry.Entry.{Entry}
use Rattle.mb_model.specs.owners.Lives.{lives_of}
use Rattle.mb_model.specs.chains.Acceptance.{KeyEntry, key_of, is_alive}
use Rattle.mb_log.specs.declared.life.BornKey.{BornKey}
use Rattle.mb_log.specs.declared.life.Life.{Life}

-- what the entry that made a key says of it
abbrev pub as_entry : BornKey → KeyEntry
as_entry born = record { layer = born.layer; kind = born.kind; key = born.key }

-- the life of the key with the number n is this one, by the entries
pub record IsLifeOf (log : List Entry) (n : ℕ) (life : Life) : Type 0 where
  pub number : life.number ≡ n
  pub born : key_of log n ≡ option_map as_entry life.born
  pub alive : (made : KeyEntry) → key_of log n ≡ Some made → life.alive ≡ is_alive log n made.layer
  pub lives : life.lives ≡ lives_of log n
