-- Laws of what can be stored. Can a device come to a state that it has no room or no spelling for?
use Rattle.std.specs.Prelude.{ℕ, ◌≤◌, List, [], length, All, Some}
use Rattle.mb_model.specs.declared.event.Event.{Event}
use Rattle.mb_model.specs.declared.event.Answered.{Answered}
use Rattle.mb_model.specs.declared.key.KeySeed.{KeySeed}
use Rattle.mb_model.specs.declared.key.PublicKey.{PublicKey}
use Rattle.mb_model.specs.declared.order.Order.{Order}
use Rattle.mb_model.specs.declared.reply.Reply.{Reply}
use Rattle.mb_model.specs.declared.region.Region.{Region}
use Rattle.mb_model.specs.declared.state.State.{State}
use Rattle.mb_model.specs.declared.stored.Public.{Public}
use Rattle.mb_model.specs.declared.stored.Root.{Root}
use Rattle.mb_model.specs.records.KeyFormat.{public_key_format}
use Rattle.mb_model.specs.records.OrderFormat.{order_format}
use Rattle.mb_model.specs.records.RootFormat.{root_format}
use Rattle.mb_model.specs.records.RegionFormat.{CanBeWritten}
use Rattle.mb_model.specs.memories.WrittenImage.{FitsImage}
use Rattle.mb_model.specs.memories.PublicRecord.{public_format}
use Rattle.mb_model.specs.memories.OldFlash.{public_of_parts, HeldPublic}
use Rattle.mb_model.specs.machine.OrderChecks.{Passes, view_of}
use Rattle.mb_model.specs.machine.OrderEffects.{state_after_order}
use Rattle.mb_model_memory.specs.Commits.{new_entries}
use Rattle.mb_model.specs.machine.Machine.{World, Step, Run}
use Rattle.mb_model.specs.memories.Valid.{IsValidState, Valid}
use Rattle.mb_model.specs.memories.Flash.{HoldsPublic}
use Rattle.mb_model.specs.memories.Meaning.{FlashForm, StandsForBy}
use Rattle.mb_model.specs.memories.Clean.{root_of}
use Rattle.mb_model.specs.memories.Factory.{state_at_birth}
use Rattle.mb_model.specs.chains.Script.{IsScriptEvent}
use Rattle.mb_model_memory.specs.Commits.{root_for}
use Rattle.mb_model_memory.specs.Storable.{IsStorableRegion, IsStorableState, Storable}

-- a valid state for which a memory stands, by a form of the flash, can be stored
abbrev pub StatesAreStorableBy : FlashForm → Type 0
StatesAreStorableBy Form =
    (flash bbram : List ℕ) (state : State) → StandsForBy Form flash bbram (Some state) → IsValidState state
    → IsStorableState state

-- a valid state that a memory means, by the current form of the flash, can be stored
abbrev pub StoredStatesAreStorable : Type 0
StoredStatesAreStorable = StatesAreStorableBy HoldsPublic

-- a valid state for which a memory stands, by the form of the flash before segments, can be stored
abbrev pub OldStatesAreStorable : Type 0
OldStatesAreStorable = StatesAreStorableBy HeldPublic

-- The state of a new device can be stored, if its owner has a spelling and its code and noise have the lengths that
-- they may have.
abbrev pub BornStatesAreStorable : Type 0
BornStatesAreStorable =
    (maker : KeySeed) (index : ℕ) (owner : PublicKey) (code noise : List ℕ) → public_key_format.Allowed owner
    → length code ≤ 32768 → 48 ≤ length noise → IsStorableState (state_at_birth maker index owner code noise)

-- the state after an order that passes can be stored, if the state before can
abbrev pub ObeyedStatesAreStorable : Type 0
ObeyedStatesAreStorable =
    (state : State) (order : Order) (draw : List ℕ) → order_format.Allowed order → Passes (view_of state) order
    → IsStorableState state → IsStorableState (state_after_order state order draw)

-- each step of an event that a script can give leads from a valid state that can be stored to one that can be stored
abbrev pub StepsKeepStorable : Type 0
StepsKeepStorable =
    (world : World) (event : Event) (answer : Reply) (next : World) → IsScriptEvent event → Valid world.state
    → Storable world.state → Step world event answer next → Storable next.state

-- a run of events that a script can give leads from a valid state that can be stored to one that can be stored
abbrev pub RunsKeepStorable : Type 0
RunsKeepStorable =
    (world : World) (answered : List Answered) (next : World) → All (λ this. IsScriptEvent this.event) answered
    → Valid world.state → Storable world.state → Run world answered next → Storable next.state

-- ---- the records of what can be stored

-- the root of a valid state that can be stored has a spelling, if nothing is pending
abbrev pub RestingRootsAreAllowed : Type 0
RestingRootsAreAllowed =
    (state : State) (area : ℕ) → area ≤ 1 → IsValidState state → IsStorableState state
    → root_format.Allowed (root_of state area)

-- the root of a valid state that can be stored has a spelling, if an order is committed
abbrev pub CommittedRootsAreAllowed : Type 0
CommittedRootsAreAllowed =
    (state : State) (order : Order) (draw : List ℕ) (area : ℕ) → area ≤ 1 → IsValidState state → IsStorableState state
    → order_format.Allowed order → Passes (view_of state) order → root_format.Allowed (root_for state order draw area)

-- the public record of a valid state that can be stored has a spelling, if nothing is pending
abbrev pub RestingPublicsAreAllowed : Type 0
RestingPublicsAreAllowed =
    (state : State) → IsValidState state → IsStorableState state
    → public_format.Allowed (public_of_parts state.codes state.log [])

-- the public record of a state that can be stored has a spelling, if an order is committed
abbrev pub CommittedPublicsAreAllowed : Type 0
CommittedPublicsAreAllowed =
    (state : State) (order : Order) (draw : List ℕ) → IsStorableState state → order_format.Allowed order
    → Passes (view_of state) order
    → public_format.Allowed
    (public_of_parts (state_after_order state order draw).codes state.log (new_entries state order draw))

-- each region that can be stored can be written
abbrev pub StorableRegionsCanBeWritten : Type 0
StorableRegionsCanBeWritten = (region : Region) → IsStorableRegion region → CanBeWritten region

-- each valid state that can be stored fits an image that is written from nothing
abbrev pub StorableStatesFitImages : Type 0
StorableStatesFitImages = (state : State) → IsValidState state → IsStorableState state → FitsImage state

-- each root that has a spelling has room in an area of the battery-backed memory
abbrev pub RootsHaveRoom : Type 0
RootsHaveRoom = (root : Root) → root_format.Allowed root → length (root_format.spelling root) ≤ 4094

-- each public record that has a spelling has room in an area of the flash
abbrev pub PublicsHaveRoom : Type 0
PublicsHaveRoom = (public : Public) → public_format.Allowed public → length (public_format.spelling public) ≤ 470000
