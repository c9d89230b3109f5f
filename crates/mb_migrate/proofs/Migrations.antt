-- An image of either form has one state, and what is written for that state means it.
use Rattle.std.proofs.Common.{◌≡◌, ℕ, List, inl, inr, Option, None, Some, sym, ap, ◌∙◌, true≢false}
use Rattle.std.specs.Prelude.{◌⊎◌, IfSome}
use Rattle.std.specs.Option.{IsSome}
use Rattle.mb_format.specs.Format.{IsBytes}
use Rattle.mb_model.specs.declared.state.State.{State}
use Rattle.mb_model.specs.memories.Flash.{HoldsPublic}
use Rattle.mb_model.specs.memories.OldFlash.{HeldPublic, WasWellFormed}
use Rattle.mb_model.specs.memories.Meaning.{FlashForm, IsWellFormedBy, IsWellFormed}
use Rattle.mb_model.specs.memories.Faults.{Fault, HasFaultBy, HasFault}
use Rattle.mb_model.specs.memories.WrittenImage.{written_image, FitsImage}
use Rattle.mb_model.specs.memories.Migration.{IsMigrated, from_present, from_before, CannotMigrate, MeansTheSame}
use Rattle.mb_model_lemmas.specs.FormLaws.{HoldsOnePublic}
use Rattle.mb_model_lemmas.proofs.OneFlash.{one_list}
use Rattle.mb_model_lemmas.proofs.HeldSegments.{segments_parts_fit}
use Rattle.mb_model_lemmas.proofs.OldFlashLemmas.{old_holds_one, old_parts_fit}
use Rattle.mb_model_lemmas.proofs.FaultLemmas.{no_fault_by, one_state_by}
use Rattle.mb_model_memory.proofs.StorableMemories.{fits_by, written_formed_by}
use Rattle.mb_image.specs.declared.image.ImageEnd.{ImageEnd}
use Rattle.mb_image.specs.Ends.{fault_of}
use Rattle.mb_migrate.specs.MigrationLaws.{MigratesToOne, MigrationKeepsState, MigratedStaysSo, MigratesOrCannot}
use Rattle.mb_migrate.specs.Readings.{IsFoundFaulty, StandsByEither, by_present, by_before}

-- ---- an image that is faulty by a form

-- an image with a fault stands for no state
stands_for_none : (Form : FlashForm) → HoldsOnePublic Form → (image : List ℕ) (found : Option Fault) → IsBytes image → IsSome found → IfSome found (HasFaultBy Form image)
    → (state : Option State) → IsWellFormedBy Form image state → ⊥
stands_for_none Form one image None are some told state formed = true≢false (sym some)
stands_for_none Form one image (Some fault) are some told state formed = no_fault_by Form one image are state fault formed told

pub found_faulty : (Form : FlashForm) → HoldsOnePublic Form → (image : List ℕ) (ended : ImageEnd) → IsBytes image → IsSome (fault_of ended) → IfSome (fault_of ended) (HasFaultBy Form image)
    → IsFoundFaulty Form image ended
found_faulty Form one image ended are some told = record { told = told; none = stands_for_none Form one image (fault_of ended) are some told }

cannot_by : (image : List ℕ) (found : Option Fault) → IfSome found (HasFault image) → ((state : Option State) → WasWellFormed image state → ⊥) → IfSome found (CannotMigrate image)
cannot_by image None told never = tt
cannot_by image (Some fault) told never = record { told = told; not_before = never }

pub cannot_migrate : (image : List ℕ) (ended other : ImageEnd) → IsFoundFaulty HoldsPublic image ended → IsFoundFaulty HeldPublic image other → IfSome (fault_of ended) (CannotMigrate image)
cannot_migrate image ended other faulty also = cannot_by image (fault_of ended) faulty.told also.none

-- ---- the state of an image, by either form

pub either_fits : (image : List ℕ) (state : Option State) → StandsByEither image state → IfSome state FitsImage
either_fits image state (by_present formed) = fits_by HoldsPublic segments_parts_fit image state formed
either_fits image state (by_before none formed) = fits_by HeldPublic old_parts_fit image state formed

-- what is written for it is well formed for it
written_formed : (image out : List ℕ) (state : Option State) → StandsByEither image state → out ≡ written_image state → IsWellFormed out state
written_formed image out state (by_present formed) written = written_formed_by HoldsPublic segments_parts_fit image out state formed written
written_formed image out state (by_before none formed) written = written_formed_by HeldPublic old_parts_fit image out state formed written

-- and there is one
one_either : (image : List ℕ) (a b : Option State) → IsBytes image → StandsByEither image a → StandsByEither image b → a ≡ b
one_either image a b are (by_present x) (by_present y) = one_state_by HoldsPublic one_list image are a b x y
one_either image a b are (by_present x) (by_before none y) = absurd (none a x)
one_either image a b are (by_before none x) (by_present y) = absurd (none b y)
one_either image a b are (by_before none x) (by_before none' y) = one_state_by HeldPublic old_holds_one image are a b x y

-- ---- what a migration makes

pub is_migrated : (image out : List ℕ) (state : Option State) → StandsByEither image state → out ≡ written_image state → IsMigrated image out
is_migrated image out state (by_present formed) written = from_present state formed written
is_migrated image out state (by_before none formed) written = from_before none state formed written

-- and for which state
record IsMigratedFor (image out : List ℕ) : Type 0 where
  pub state : Option State
  pub stands : StandsByEither image state
  pub written : out ≡ written_image state

migrated_for : (image out : List ℕ) → IsMigrated image out → IsMigratedFor image out
migrated_for image out (from_present state formed written) = record { state = state; stands = by_present formed; written = written }
migrated_for image out (from_before none state formed written) = record { state = state; stands = by_before none formed; written = written }

stood_by_either : (image : List ℕ) (state : Option State) → StandsByEither image state → IsWellFormed image state ⊎ WasWellFormed image state
stood_by_either image state (by_present formed) = inl formed
stood_by_either image state (by_before none formed) = inr formed

pub keeps_state : (image out : List ℕ) (state : Option State) → StandsByEither image state → out ≡ written_image state → MeansTheSame image out
keeps_state image out state stands written =
    record { state = state; was = stood_by_either image state stands; now = written_formed image out state stands written }

-- ---- the laws

pub migration_keeps_state : MigrationKeepsState
migration_keeps_state image out migrated =
    let is = migrated_for image out migrated in
    keeps_state image out is.state is.stands is.written

pub migrates_to_one : MigratesToOne
migrates_to_one image a b are migrated also =
    let one = migrated_for image a migrated in
    let other = migrated_for image b also in
    one.written ∙ ap written_image (one_either image one.state other.state are one.stands other.stands) ∙ sym other.written

pub migrated_stays_so : MigratedStaysSo
migrated_stays_so image out again are migrated repeated =
    let is = migrated_for image out migrated in
    migrates_to_one out again out are repeated (from_present is.state (written_formed image out is.state is.stands is.written) is.written)

pub migrates_or_cannot : MigratesOrCannot
migrates_or_cannot image out fault are (from_present state formed written) cannot = no_fault_by HoldsPublic one_list image are state fault formed cannot.told
migrates_or_cannot image out fault are (from_before none state formed written) cannot = cannot.not_before state formed
