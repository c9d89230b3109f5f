-- Laws of power losses and of want of memory. Does a power loss bring a device where it could not come without one?
use Rattle.std.specs.Prelude.{◌≡◌, ◌≢◌, ◌⊎◌, ◌↔◌, ℕ, Bool, true, false, IsTrue, List, [], ◌∷◌, ◌++◌, All, map, Option}
use Rattle.std.specs.Prelude.{Some}
use Rattle.mb_model.specs.declared.event.Answered.{Answered}
use Rattle.mb_model.specs.declared.event.Event.{Event}
use Rattle.mb_model.specs.declared.event.Event.TheVariants as event
use Rattle.mb_model.specs.declared.event.Tear.{Tear}
use Rattle.mb_model.specs.declared.reply.Reply.{Reply}
use Rattle.mb_model.specs.declared.reply.Reply.TheVariants as reply
use Rattle.mb_model.specs.declared.state.State.{State}
use Rattle.mb_model.specs.owners.Layers.{is_runnable}
use Rattle.mb_model.specs.machine.Machine.{ratchet, World, opening_world, Machine, Step, Run, may_be_cut}
use Rattle.mb_model.specs.owners.Regions.{empty_region}
use Rattle.mb_model_lemmas.specs.RefusalLaws.{BringsBytes}
use Rattle.mb_model_histories.specs.ObeyedOrders.{IsOpen}

-- ---- runs without power losses and want of memory

-- the answered events lead from one world to another, and each answer is the machine's own
abbrev pub SmoothRun : World → List Answered → World → Type 0
SmoothRun world [] next = next ≡ world
SmoothRun world (this ∷ rest) next =
    (mid : World) × Machine world this.event this.reply mid × SmoothRun mid rest next

-- the world, with no power loss armed
abbrev pub unarmed_world : World → World
unarmed_world world = record world { armed = false }

-- the event arms a power loss
abbrev pub arms_power_loss : Event → Bool
arms_power_loss (event.Cut count tear) = true
arms_power_loss other = false

-- the answer is the machine's own: memory was found, and power did not fail
pub record HasOwnAnswer (this : Answered) : Type 0 where
  pub found : this.reply ≢ reply.NoMemory
  pub held : this.reply ≢ reply.Stopped

-- power goes off
abbrev pub power_off : Answered
power_off = record { event = event.Off; reply = reply.Off }

-- What stands in for an answered event in a run without power losses and want of memory. One that arms a power loss, or
-- that was answered `no memory`, is left out. Where power failed, it goes off in the ordinary way: before the event, or
-- after it, as the machine answers it. All else stays.
pub data StandsInFor (this : Answered) : List Answered → Type 0 where
  stays_so : HasOwnAnswer this → arms_power_loss this.event ≡ false → StandsInFor this (this ∷ [])
  arms_none : arms_power_loss this.event ≡ true → StandsInFor this []
  lacks_none : this.reply ≡ reply.NoMemory → StandsInFor this []
  off_before : this.reply ≡ reply.Stopped → StandsInFor this (power_off ∷ [])
  off_after : this.reply ≡ reply.Stopped
      → (told : Reply) → IsTrue (may_be_cut told)
      → StandsInFor this (record this { reply = told } ∷ power_off ∷ [])

-- the second list has what stands in for each event of the first, in order
abbrev pub IsSmoothed : List Answered → List Answered → Type 0
IsSmoothed [] smooth = smooth ≡ []
IsSmoothed (this ∷ rest) smooth =
    (part more : List Answered) × StandsInFor this part × IsSmoothed rest more × (smooth ≡ part ++ more)

-- Where a run leads, one without power losses and want of memory leads too: the device has the same state and phase.
-- Where power failed, it was switched off in the ordinary way, before or after the event. All other answers stay.
abbrev pub PowerLossesReachNothingNew : Type 0
PowerLossesReachNothingNew =
    (world next : World) (answered : List Answered) → Run world answered next
    → (smooth : List Answered) × IsSmoothed answered smooth
    × SmoothRun (unarmed_world world) smooth (unarmed_world next)

-- The worlds are compared with no power loss armed: one event `cut` leads to a world in which one is, and no run that
-- stands in for it does.
abbrev pub ArmedWorldsAreNotReached : Type 0
ArmedWorldsAreNotReached =
    (state : Option State) (count : ℕ) (tear : Tear)
    → let cut : Answered = record { event = event.Cut count tear; reply = reply.Armed } in
    let armed : World = record (opening_world state) { armed = true } in
    Run (opening_world state) (cut ∷ []) armed
    × ((smooth : List Answered) → IsSmoothed (cut ∷ []) smooth → SmoothRun (opening_world state) smooth armed → ⊥)

-- ---- what is determined

-- Two runs of the same events from one world, all of whose answers are the machine's own, have the same answers and
-- lead to one world. Orders come in bytes.
abbrev pub RunsAreDetermined : Type 0
RunsAreDetermined =
    (world end other_end : World) (one other : List Answered) → All (λ this. BringsBytes this.event) one
    → map (λ this. this.event) one ≡ map (λ this. this.event) other → All HasOwnAnswer one → All HasOwnAnswer other
    → Run world one end → Run world other other_end → (one ≡ other) × (end ≡ other_end)

-- Want of memory is not determined: in each world `status` has two answers, since it may find none.
abbrev pub MemoryIsNotDetermined : Type 0
MemoryIsNotDetermined =
    (world : World) → (answer : Reply) × (answer ≢ reply.NoMemory) × Step world event.Status answer world
    × Step world event.Status reply.NoMemory world

-- Where power fails at an event, two worlds can be left, and no other: power is off, and the state is that before the
-- event, or that after it.
abbrev pub OneChoiceACut : Type 0
OneChoiceACut =
    (world next : World) (this : Event) → BringsBytes this → Step world this reply.Stopped next
    → (told : Reply) × (whole : World) × Machine world this told whole
    × ((left : World) → Step world this reply.Stopped left
    ↔ ((left ≡ opening_world world.state) ⊎ (left ≡ opening_world whole.state)))

-- Both worlds of a power loss do come: a `put` into a region that is empty and open, at which power fails, has been
-- done, or has not.
abbrev pub EitherIsLeft : Type 0
EitherIsLeft =
    (state : State) (name value : List ℕ) → is_runnable state.layers 2 ≡ true → IsOpen state 2
    → let before : State = record state { two = empty_region } in
    let world : World = record { state = Some before; phase = ratchet 1; armed = true } in
    (after : State) × (after ≢ before)
    × Step world (event.Put 2 name value) reply.Stopped (opening_world (Some before))
    × Step world (event.Put 2 name value) reply.Stopped (opening_world (Some after))
