-- The first look at a device that comes up. Is each piece of work that is left found?
use Rattle.std.specs.Prelude.{◌≡◌, ◌≢◌, List, ℕ, None}
use Rattle.mb_model.specs.declared.stored.Root.{Root}
use Rattle.mb_model.specs.memories.Memory.{IsBlank}
use Rattle.mb_area.specs.declared.first_look.Looked.{Looked}
use Rattle.mb_area.specs.declared.first_look.Looked.TheVariants.{Settled, Unsettled, Unwiped}

-- The work that is left, by the current root record and the root's inactive area. Pending work comes with that record.
abbrev pub IsLooked : Looked → Root → List ℕ → Type 0
IsLooked (Settled up) root other = (root.pending ≡ None) × IsBlank other
IsLooked (Unsettled unsettled) root other = (root ≡ unsettled.root) × (root.pending ≢ None)
IsLooked (Unwiped unwiped) root other = (root.pending ≡ None) × (IsBlank other → ⊥)
