-- The memory of a device that has come up. Is it clean, and does it mean the same state?
use Rattle.std.specs.Prelude.{◌≡◌, ℕ, List, Bool, true, false, Option, Some, Result, Ok, Err}
use Rattle.mb_model.specs.declared.state.State.{State}
use Rattle.mb_model.specs.declared.stored.Root.{Root}
use Rattle.mb_model.specs.outside.Board.{Memory, Meter}
use Rattle.mb_model.specs.memories.Memory.{IsBlank, inactive_area_of_slot}
use Rattle.mb_model.specs.memories.Meaning.{RootIn, StandsFor}
use Rattle.mb_model.specs.memories.Clean.{Clean}
use Rattle.mb_model.specs.memories.Valid.{Valid}
use Rattle.mb_model_memory.specs.Holding.{Means}
use Rattle.mb_area.specs.declared.first_look.Looked.{Looked}
use Rattle.mb_area.specs.Look.{IsLooked}
use Rattle.mb_boot.specs.Settling.{IsAtRest}
use Rattle.mb_boot.specs.declared.device.BootEnd.{BootEnd}
use Rattle.mb_boot.specs.declared.device.BootEnd.TheVariants.{Stopped, Zeroised, NoMemory}

-- the memory means a state that a device can have, or a dead device
pub record StandsForValid (memory : Memory) : Type 0 where
  pub state : Option State
  pub stands : StandsFor memory.flash memory.bbram state
  pub valid : Valid state

-- the memory means whatever it meant, a state or a dead device
pub record KeepsState (before after : Memory) : Type 0 where
  pub kept : (state : Option State) → StandsFor before.flash before.bbram state
      → StandsFor after.flash after.bbram state

-- the work found is the work that is left, by the current root record and the root's inactive area
pub record IsFoundAs (looked : Looked) (bbram : List ℕ) : Type 0 where
  pub found : (root : Root) → RootIn bbram root → IsLooked looked root (inactive_area_of_slot bbram 1)

-- the memory holds whatever state it meant, with nothing pending, and the root's inactive area is all zero
pub record Rests (before after : Memory) : Type 0 where
  pub rests : (state : State) → Means before state → IsAtRest after state
  pub blank : IsBlank (inactive_area_of_slot after.bbram 1)

-- the inactive areas of both regions are all zero
pub record IsWiped (bbram : List ℕ) : Type 0 where
  pub two : IsBlank (inactive_area_of_slot bbram 2)
  pub three : IsBlank (inactive_area_of_slot bbram 3)

-- the memory is clean for whatever state it meant
pub record Cleans (before after : Memory) : Type 0 where
  pub cleans : (state : State) → Means before state → Clean after.bbram (Some state)

-- if the memory was clean, nothing was written
pub record IsQuiet (before after : Memory) (counted counted_after : Meter) : Type 0 where
  pub quiet : (state : State) → Clean before.bbram (Some state) → (after ≡ before) × (counted_after ≡ counted)

-- ---- how a boot ends

-- whether power failed, which is all that the counts show
abbrev pub stop_of : {A : Type 0} → Result A BootEnd → Result (Unit {0}) (Unit {0})
stop_of (Ok up) = Ok tt
stop_of (Err (Stopped off)) = Err tt
stop_of (Err (Zeroised dead)) = Ok tt
stop_of (Err (NoMemory off)) = Ok tt

-- whether power is on: it is in a device that has come up, and in a dead one
abbrev pub power_at : {A : Type 0} → Result A BootEnd → Bool
power_at (Ok up) = true
power_at (Err (Stopped off)) = false
power_at (Err (Zeroised dead)) = true
power_at (Err (NoMemory off)) = false

-- the level of the ratchet is 1 in a device that has come up, and 0 in a dead one
abbrev pub HasLevel : {A : Type 0} → Result A BootEnd → ℕ → Type 0
HasLevel (Ok up) level = level ≡ 1
HasLevel (Err (Stopped off)) level = Unit {0}
HasLevel (Err (Zeroised dead)) level = level ≡ 0
HasLevel (Err (NoMemory off)) level = Unit {0}

abbrev pub is_zeroised : {A : Type 0} → Result A BootEnd → Bool
is_zeroised (Ok up) = false
is_zeroised (Err (Stopped off)) = false
is_zeroised (Err (Zeroised dead)) = true
is_zeroised (Err (NoMemory off)) = false

-- both P and Q hold if the device was found dead, or if an allocation failed
abbrev pub IfUnwritten : {A : Type 0} → Result A BootEnd → Type 0 → Type 0 → Type 0
IfUnwritten (Ok up) P Q = Unit {0}
IfUnwritten (Err (Stopped off)) P Q = Unit {0}
IfUnwritten (Err (Zeroised dead)) P Q = P × Q
IfUnwritten (Err (NoMemory off)) P Q = P × Q
