-- How items are spelled: chains that are shown to a register, and questions. Which file asks for what?
use Rattle.std.specs.Prelude.{ℕ, ◌<◌, List, [], ◌∷◌, length, Option, None, Some}
use Rattle.std.specs.Int.{w8, w32}
use Rattle.mb_format.specs.Format.{Format, SpelledAt, Spells}
use Rattle.mb_format.specs.Combinators.{raw, number, between, table, pair, as_value, led, sized, times}
use Rattle.mb_fleet.specs.declared.item.Item.{Item}
use Rattle.mb_fleet.specs.declared.item.Item.TheVariants.{Show, Find, Codes}

-- what an item is, by its first byte
pub data ItemTag : Type 0 where
  show_tag find_tag codes_tag : ItemTag

abbrev pub item_byte : ItemTag → ℕ
item_byte show_tag = 1
item_byte find_tag = 2
item_byte codes_tag = 3

abbrev pub item_rows : List (ℕ × ItemTag)
item_rows = (1, show_tag) ∷ (2, find_tag) ∷ (3, codes_tag) ∷ []

abbrev pub item_tag : Item → ItemTag
item_tag (Show chain) = show_tag
item_tag (Find layer hash) = find_tag
item_tag (Codes layer) = codes_tag

abbrev pub show_in : Item → Option (List ℕ)
show_in (Show chain) = Some chain
show_in (Find layer hash) = None
show_in (Codes layer) = None

abbrev pub find_in : Item → Option (ℕ × List ℕ)
find_in (Show chain) = None
find_in (Find layer hash) = Some (layer, hash)
find_in (Codes layer) = None

abbrev pub codes_item_in : Item → Option ℕ
codes_item_in (Show chain) = None
codes_item_in (Find layer hash) = None
codes_item_in (Codes layer) = Some layer

-- the bytes of a chain after their number; they need not spell a chain
unfoldable pub show_format : Format Item
show_format = as_value (sized (number w32)) (λ chain. Show chain) show_in

-- a layer and the hash of a code
unfoldable pub find_format : Format Item
find_format = as_value (pair (between w8 1 3) (raw 32)) (λ (layer, hash). Find layer hash) find_in

-- a layer
unfoldable pub codes_item_format : Format Item
codes_item_format = as_value (between w8 1 3) (λ layer. Codes layer) codes_item_in

abbrev pub item_by : ItemTag → Format Item
item_by show_tag = show_format
item_by find_tag = find_format
item_by codes_tag = codes_item_format

unfoldable pub item_format : Format Item
item_format = led (table w8 item_rows item_byte) item_tag item_by

-- bytes are these items, one after another to the end
abbrev pub AreItems : List ℕ → List Item → Type 0
AreItems bytes listed = Spells (times (length listed) item_format) bytes listed

-- bytes are no items: after whole items, which do not reach the end, a field of the next fails at this offset
pub record ItemsFailAt (bytes : List ℕ) (offset : ℕ) : Type 0 where
  pub listed : List Item
  pub after : ℕ
  pub spelled : SpelledAt (times (length listed) item_format).spelling (times (length listed) item_format).Allowed
      bytes 0 listed after
  pub more : after < length bytes
  pub fails : item_format.FailsAt bytes after offset
