-- Which serials an index lists for a code, and what changes with the code of a device. Does it belong to the rows?
use Rattle.std.specs.Prelude.{◌≡◌, ℕ, ◌<◌, ◌≤◌, List, [], ◌∷◌, ◌++◌, length, filter, Option, None, Some, is_some, true}
use Rattle.std.specs.Prelude.{unwrap_or, if◌then◌else◌}
use Rattle.std.specs.List.{AllByRecursion}
use Rattle.std.specs.Ordering.{nat_cmp, is_lt}
use Rattle.std.specs.Cmp.Lexicographic.{slice_cmp}
use Rattle.std.specs.BTreeMap.{get}
use Rattle.mb_format.specs.Combinators.{same_bytes}
use Rattle.mb_fleet.specs.declared.limits.TheConstants.{DEVICE_LIMIT}
use Rattle.mb_fleet.specs.declared.row.Row.{Row}
use Rattle.mb_fleet.specs.declared.row.CodeHashes.{CodeHashes}
use Rattle.mb_fleet.specs.declared.question.CodeCount.{CodeCount}
use Rattle.mb_fleet.specs.declared.index.CodeIndex.{CodeIndex}
use Rattle.mb_fleet.specs.declared.index.Listing.{Listing}
use Rattle.mb_fleet.specs.declared.index.IndexChange.{IndexChange}
use Rattle.mb_fleet.specs.declared.indexes.CodeIndexes.{CodeIndexes}
use Rattle.mb_fleet.specs.declared.indexes.CodeChange.{CodeChange}
use Rattle.mb_fleet.specs.Order.{IsAscending}
use Rattle.mb_fleet.specs.Questions.{serials_with, hash_of_count, count_beside}

-- the serials that an index lists for a code
abbrev pub serials_at : CodeIndex → List ℕ → List (List ℕ)
serials_at index hash = unwrap_or (get (slice_cmp nat_cmp) index.serials hash) []

-- for each code an index lists the devices whose layer has it
abbrev pub IsIndexOf : ℕ → List Row → CodeIndex → Type 0
IsIndexOf layer rows index = (hash : List ℕ) → serials_at index hash ≡ serials_with layer hash rows

-- the codes that some device has, in ascending order, each with the number of the serials that are listed for it
pub record AreListed (index : CodeIndex) (counts : List CodeCount) : Type 0 where
  pub ordered : IsAscending hash_of_count counts
  pub some : AllByRecursion (λ c. 0 < c.count) counts
  pub counted : (hash : List ℕ) → count_beside hash counts ≡ length (serials_at index hash)

abbrev pub IsOfFewRows : CodeIndex → Type 0
IsOfFewRows index = (hash : List ℕ) → length (serials_at index hash) ≤ DEVICE_LIMIT

-- ---- changes

-- the serials that come before this one, and those that come after it
abbrev pub lower : List ℕ → List (List ℕ) → List (List ℕ)
lower serial serials = filter (λ other. is_lt (slice_cmp nat_cmp other serial)) serials

abbrev pub higher : List ℕ → List (List ℕ) → List (List ℕ)
higher serial serials = filter (λ other. is_lt (slice_cmp nat_cmp serial other)) serials

-- serials without this one, and with it, in ascending order if the given ones are
abbrev pub without : List ℕ → List (List ℕ) → List (List ℕ)
without serial serials = lower serial serials ++ higher serial serials

abbrev pub among : List ℕ → List (List ℕ) → List (List ℕ)
among serial serials = lower serial serials ++ serial ∷ higher serial serials

-- the code is a key of the index
abbrev pub HasCode : CodeIndex → List ℕ → Type 0
HasCode index hash = is_some (get (slice_cmp nat_cmp) index.serials hash) ≡ true

abbrev pub KeepsCodes : CodeIndex → CodeIndex → Type 0
KeepsCodes old new = (hash : List ℕ) → HasCode old hash → HasCode new hash

abbrev pub ListsSame : CodeIndex → CodeIndex → Type 0
ListsSame old new = (hash : List ℕ) → serials_at new hash ≡ serials_at old hash

-- the listing for this code, if there is one: the serials that the index lists for it, changed; the index has the code
abbrev pub IsListingOf : CodeIndex → (List (List ℕ) → List (List ℕ)) → Option (List ℕ) → Option Listing → Type 0
IsListingOf index change None None = Unit {0}
IsListingOf index change None (Some listing) = ⊥
IsListingOf index change (Some hash) None = ⊥
IsListingOf index change (Some hash) (Some listing) =
    (listing.hash ≡ hash) × HasCode index hash × (listing.serials ≡ change (serials_at index hash))

-- what is to be listed when the code of a device changes from one to another
pub record IsChangeOf (index : CodeIndex) (serial : List ℕ) (from to : Option (List ℕ))
    (change : IndexChange) : Type 0 where
  pub left : IsListingOf index (without serial) from change.left
  pub joined : IsListingOf index (among serial) to change.joined

abbrev pub HasCodeOf : CodeIndex → Option Listing → Type 0
HasCodeOf index None = Unit {0}
HasCodeOf index (Some listing) = HasCode index listing.hash

abbrev pub HasCodesOf : CodeIndex → IndexChange → Type 0
HasCodesOf index change = HasCodeOf index change.left × HasCodeOf index change.joined

-- what is listed for a code after a listing was put in
abbrev pub overlaid : Option Listing → List ℕ → List (List ℕ) → List (List ℕ)
overlaid None hash serials = serials
overlaid (Some listing) hash serials = if same_bytes hash listing.hash then listing.serials else serials

abbrev pub listed_after : IndexChange → List ℕ → List (List ℕ) → List (List ℕ)
listed_after change hash serials = overlaid change.joined hash (overlaid change.left hash serials)

abbrev pub IsChanged : CodeIndex → IndexChange → CodeIndex → Type 0
IsChanged old change new = (hash : List ℕ) → serials_at new hash ≡ listed_after change hash (serials_at old hash)

-- ---- the three layers

pub record AreIndexesOf (rows : List Row) (indexes : CodeIndexes) : Type 0 where
  pub one : IsIndexOf 1 rows indexes.one
  pub two : IsIndexOf 2 rows indexes.two
  pub three : IsIndexOf 3 rows indexes.three

pub record AreOfFewRows (indexes : CodeIndexes) : Type 0 where
  pub one : IsOfFewRows indexes.one
  pub two : IsOfFewRows indexes.two
  pub three : IsOfFewRows indexes.three

pub record AreChangesOf (indexes : CodeIndexes) (serial : List ℕ) (from to : CodeHashes)
    (change : CodeChange) : Type 0 where
  pub one : IsChangeOf indexes.one serial from.one to.one change.one
  pub two : IsChangeOf indexes.two serial from.two to.two change.two
  pub three : IsChangeOf indexes.three serial from.three to.three change.three

pub record HaveCodesOf (indexes : CodeIndexes) (change : CodeChange) : Type 0 where
  pub one : HasCodesOf indexes.one change.one
  pub two : HasCodesOf indexes.two change.two
  pub three : HasCodesOf indexes.three change.three

pub record AreChanged (old : CodeIndexes) (change : CodeChange) (new : CodeIndexes) : Type 0 where
  pub one : IsChanged old.one change.one new.one
  pub two : IsChanged old.two change.two new.two
  pub three : IsChanged old.three change.three new.three
