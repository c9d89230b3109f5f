-- Where a key stands in a list that ascends by it. Is it there, and if not, between which two items does it belong?
use Rattle.std.specs.Prelude.{◌≡◌, ℕ, ◌≤◌, List, ◌∷◌, ◌++◌, length}
use Rattle.std.specs.List.{AllByRecursion}
use Rattle.mb_model.specs.declared.limits.TheConstants.{ENTRY_LIMIT}
use Rattle.mb_fleet.specs.declared.limits.TheConstants.{DEVICE_LIMIT}
use Rattle.mb_fleet.specs.declared.lookup.Lookup.{Lookup}
use Rattle.mb_fleet.specs.declared.lookup.Lookup.TheVariants.{Held, Free}
use Rattle.mb_fleet.specs.declared.row.Row.{Row}
use Rattle.mb_fleet.specs.declared.comparison.Comparison.{Comparison}
use Rattle.mb_fleet.specs.declared.comparison.Comparison.TheVariants as found
use Rattle.mb_fleet.specs.Order.{IsBefore}
use Rattle.mb_fleet.specs.Rows.{AreOrdered}
use Rattle.mb_fleet.specs.Showing.{IsShorter, DifferAt}

module _ {A : Type 0} (key : A → List ℕ) where
  -- an item with this key stands at this index
  pub record IsHeld (xs : List A) (wanted : List ℕ) (index : ℕ) : Type 0 where
    pub before : List A
    pub item : A
    pub later : List A
    pub split : xs ≡ before ++ item ∷ later
    pub index_is : index ≡ length before
    pub key_is : key item ≡ wanted

  -- no item has this key, and one that has it belongs at this index
  pub record IsFree (xs : List A) (wanted : List ℕ) (index : ℕ) : Type 0 where
    pub before : List A
    pub later : List A
    pub split : xs ≡ before ++ later
    pub index_is : index ≡ length before
    pub below : AllByRecursion (λ x. IsBefore (key x) wanted) before
    pub above : AllByRecursion (λ x. IsBefore wanted (key x)) later

  -- what a lookup of this key finds
  abbrev pub LooksUp : List A → List ℕ → Lookup → Type 0
  LooksUp xs wanted (Held index) = IsHeld xs wanted index
  LooksUp xs wanted (Free index) = IsFree xs wanted index

-- how two lists of hashes compare; the first was shown before the second
abbrev pub Compares : List (List ℕ) → List (List ℕ) → Comparison → Type 0
Compares old new found.Same = new ≡ old
Compares old new found.Longer = IsShorter old new
Compares old new found.Shorter = IsShorter new old
Compares old new (found.Differs place) = DifferAt old new place

-- a row has no more entries than a log
abbrev pub HasFewEntries : Row → Type 0
HasFewEntries row = length row.hashes ≤ ENTRY_LIMIT

-- what is true of the rows that a register keeps
pub record FitsRegister (rows : List Row) : Type 0 where
  pub ordered : AreOrdered rows
  pub few : length rows ≤ DEVICE_LIMIT
  pub each : AllByRecursion HasFewEntries rows
