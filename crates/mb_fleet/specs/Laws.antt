-- What the definitions give: items are read in one way, and a chain that is shown has one answer.
use Rattle.std.specs.Prelude.{◌≡◌, ℕ, List}
use Rattle.mb_format.specs.Format.{IsBytes}
use Rattle.mb_model.specs.declared.key.PublicKey.{PublicKey}
use Rattle.mb_model_commands.specs.declared.role.Role.TheVariants as role
use Rattle.mb_model_commands.specs.declared.role.Place.TheVariants as fault
use Rattle.mb_model_commands.specs.Commands.{Input}
use Rattle.mb_model_commands.specs.Inputs.{IsClearInput, binary_input}
use Rattle.mb_fleet.specs.declared.row.Row.{Row}
use Rattle.mb_fleet.specs.declared.item.Item.{Item}
use Rattle.mb_fleet.specs.Rows.{AreOrdered}
use Rattle.mb_fleet.specs.RegisterFormat.{register_format}
use Rattle.mb_fleet.specs.ItemFormat.{AreItems, ItemsFailAt}
use Rattle.mb_fleet.specs.Showing.{Answer, Meets, IsChainAnswered}

-- ---- inputs

-- a file of a register
abbrev pub register_input : List ℕ → Input (List Row)
register_input name = binary_input role.Register register_format name

-- a file of items, which is at fault at the offset of the first field that is not allowed
abbrev pub items_input : List ℕ → Input (List Item)
items_input name = record {
  role = role.Items;
  name = name;
  Is = AreItems;
  FaultyAt = λ bytes place. (offset : ℕ) × (place ≡ fault.At offset) × ItemsFailAt bytes offset;
}

-- no input both means a value and is at fault
pub record FleetInputsAreClear : Type 0 where
  pub register : (name : List ℕ) → IsClearInput (register_input name)
  pub items : (name : List ℕ) → IsClearInput (items_input name)

-- bytes are the items of one list, or fail at one offset; never two of either, never both
pub record ItemsAreClear : Type 0 where
  pub one_list : (bytes : List ℕ) (a b : List Item) → IsBytes bytes → AreItems bytes a → AreItems bytes b → a ≡ b
  pub one_offset : (bytes : List ℕ) (p q : ℕ) → IsBytes bytes → ItemsFailAt bytes p → ItemsFailAt bytes q → p ≡ q
  pub never_both : (bytes : List ℕ) (listed : List Item) (offset : ℕ) → IsBytes bytes → AreItems bytes listed
      → ItemsFailAt bytes offset → ⊥

-- ---- answers

-- a row that meets rows in ascending serials has one answer, and one list of rows afterwards
abbrev pub RowsHaveOneAnswer : Type 0
RowsHaveOneAnswer =
    (rows : List Row) (row : Row) (a b : Answer) (after later : List Row) → AreOrdered rows
    → Meets rows row a after → Meets rows row b later → (a ≡ b) × (after ≡ later)

-- a chain that is shown to rows in ascending serials has one answer, and one list of rows afterwards
abbrev pub ChainsHaveOneAnswer : Type 0
ChainsHaveOneAnswer =
    (maker : PublicKey) (rows : List Row) (bytes : List ℕ) (a b : Answer) (after later : List Row) → IsBytes bytes
    → AreOrdered rows → IsChainAnswered maker rows bytes a after → IsChainAnswered maker rows bytes b later
    → (a ≡ b) × (after ≡ later)
