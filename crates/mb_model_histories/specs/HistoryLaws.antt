-- Laws of whole histories: of runs of one device one after another, with migrations between them. Does what holds over
-- one run hold from the factory on?
use Rattle.std.specs.Prelude.{◌≡◌, ◌<◌, ◌⊎◌, ℕ, List, [], ◌∷◌, All, Contains, map, Option, Some}
use Rattle.mb_format.specs.Format.{IsBytes}
use Rattle.mb_model.specs.declared.event.Answered.{Answered}
use Rattle.mb_model.specs.declared.event.Event.{Event}
use Rattle.mb_model.specs.declared.event.Event.TheVariants as event
use Rattle.mb_model.specs.declared.key.KeySeed.{KeySeed}
use Rattle.mb_model.specs.declared.key.PublicKey.{PublicKey}
use Rattle.mb_model.specs.declared.region.RegionKey.{RegionKey}
use Rattle.mb_model.specs.declared.reply.Reply.TheVariants as reply
use Rattle.mb_model.specs.declared.state.State.{State}
use Rattle.mb_model.specs.chains.Acceptance.{IsBornOf}
use Rattle.mb_model.specs.outside.Board.{image_of, Held}
use Rattle.mb_model.specs.memories.Factory.{state_at_birth, IsFactoryImage}
use Rattle.mb_model.specs.owners.Layers.{Runnable}
use Rattle.mb_model.specs.machine.Machine.{World, opening_world, Run}
use Rattle.mb_model.specs.memories.Meaning.{IsWellFormed}
use Rattle.mb_model.specs.memories.Migration.{IsMigrated}
use Rattle.mb_model.specs.owners.Regions.{region_of}
use Rattle.mb_model.specs.machine.Runs.{BeginsWith, IsSignedAt, SignsStatementsOnce, SignsAfterUses, StaysAccepted}
use Rattle.mb_model.specs.chains.Script.{IsScriptEvent}
use Rattle.mb_model.specs.signatures.Signing.{public_of}
use Rattle.mb_model.specs.memories.Valid.{IsValidState, Valid}
use Rattle.mb_model_commands.specs.Inputs.{Image}
use Rattle.mb_model_commands.specs.RunCommand.{IsServed}
use Rattle.mb_model_histories.specs.ObeyedOrders.{IsOpen}
use Rattle.mb_model_histories.specs.Histories.{History, all_answered, ComesAfter, IsJoined}

-- ---- what holds over histories

-- A history leads from a state that a device can have to such a state.
abbrev pub HistoriesStayValid : Type 0
HistoriesStayValid =
    (first last : Option State) (runs : List (List Answered)) → Valid first → History first runs last → Valid last

-- A device that is alive at the end of a history was alive at its start, and its log begins with the log of that time.
abbrev pub LogsGrowOverHistories : Type 0
LogsGrowOverHistories =
    (first : Option State) (runs : List (List Answered)) (live : State) → History first runs (Some live)
    → (born : State) × (first ≡ Some born) × BeginsWith live.log born.log

-- Of two statements of one key in a history, the later has the higher index, and no statement has an index that its key
-- had used before.
abbrev pub HistoriesSignOnce : Type 0
HistoriesSignOnce =
    (first last : Option State) (runs : List (List Answered)) → Valid first → History first runs last
    → SignsStatementsOnce (all_answered runs) × SignsAfterUses first (all_answered runs)

-- ---- the worlds of a history

-- A history leads to a world that comes after its first world and has its last state.
abbrev pub HistoriesHaveWorlds : Type 0
HistoriesHaveWorlds =
    (first last : Option State) (runs : List (List Answered)) → History first runs last
    → (end : World) × ComesAfter end (opening_world first) × (end.state ≡ last)

-- Each world that comes after the first of a device is one to whose state a history leads.
abbrev pub WorldsHaveHistories : Type 0
WorldsHaveHistories =
    (first : Option State) (there : World) → ComesAfter there (opening_world first)
    → (runs : List (List Answered)) × History first runs there.state

-- ---- histories are runs

-- A history of a device that is alive at its end is one run, in which power went off before each run of the history.
abbrev pub HistoriesAreRuns : Type 0
HistoriesAreRuns =
    (first : Option State) (runs : List (List Answered)) (live : State) → History first runs (Some live)
    → (joined : List Answered) × (last : World) × IsJoined runs joined × Run (opening_world first) joined last
    × (last.state ≡ Some live)

-- Where a live device comes in its history, a run leads too: what holds after each run holds ever after.
abbrev pub RunsLeadWhereHistoriesDo : Type 0
RunsLeadWhereHistoriesDo =
    (here there : World) (live : State) → ComesAfter there here → there.state ≡ Some live
    → (answered : List Answered) × Run here answered there

-- From one and the same state a key of an open region signs whatever message at its next index. So an image that is
-- used twice has a key sign two messages with one index: a history is not all that can be done with a device.
abbrev pub ReplayedImagesSignAgain : Type 0
ReplayedImagesSignAgain =
    (state : State) (layer : ℕ) (key : RegionKey) (message : List ℕ) → IsValidState state
    → Contains (region_of state layer).keys key → key.uses < 32 → Runnable state.layers layer → IsOpen state layer
    → (boot this : Answered) × (last : World) × Run (opening_world (Some state)) (boot ∷ this ∷ []) last
    × (this.event ≡ event.Sign layer key.number message) × IsSignedAt key.number key.uses this

-- ---- from the factory on

-- Whatever has happened to a live device, the maker's key signed the birth in its log.
abbrev pub BornOfTheirMaker : Type 0
BornOfTheirMaker =
    (maker : KeySeed) (index : ℕ) (owner : PublicKey) (code noise : List ℕ) (runs : List (List Answered)) (live : State)
    → index < 32 → History (Some (state_at_birth maker index owner code noise)) runs (Some live)
    → IsBornOf (public_of maker) live.log

-- A device cannot tell who signed its birth: there is a valid state in whose log no maker did. So of devices that no
-- factory made nothing of the kind holds.
abbrev pub BirthsMayBeUnsigned : Type 0
BirthsMayBeUnsigned =
    (state : State) × IsValidState state × ((maker : PublicKey) → IsBornOf maker state.log → ⊥)

-- Each statement that a device answered since its factory image was made is accepted under the maker's key with its
-- log, as long as it is alive. The events are those of scripts.
abbrev pub AllStatementsStayAccepted : Type 0
AllStatementsStayAccepted =
    (maker : KeySeed) (index : ℕ) (owner : PublicKey) (code noise image : List ℕ) (runs : List (List Answered))
    → (live : State) → IsFactoryImage maker index owner code noise image → index < 32
    → History (Some (state_at_birth maker index owner code noise)) runs (Some live)
    → All (λ this. IsScriptEvent this.event) (all_answered runs)
    → All
    (λ this. (key_number index : ℕ) (bytes : List ℕ) → this.reply ≡ reply.Signed key_number index bytes
    → StaysAccepted (public_of maker) live.log key_number bytes)
    (all_answered runs)

-- ---- histories of images

-- What the program writes after a run is an image that it reads again, with the state in which the run ended.
abbrev pub ServedImagesAreRead : Type 0
ServedImagesAreRead =
    (image : Image) (events : List Event) (answered : List Answered) (final : Held)
    → (served : IsServed image events answered final) → IsWellFormed (image_of final.memory) served.last.state

-- one call of the program that serves events: these, how they were answered, and what was held at the end
pub record Turn : Type 0 where
  pub events : List Event
  pub answered : List Answered
  pub final : Held

-- the image that is read next is the one that was written, or what a migration made of it
abbrev pub IsNextImage : List ℕ → List ℕ → Type 0
IsNextImage written image = IsBytes image × ((image ≡ written) ⊎ IsMigrated written image)

-- Calls of the program one after another, from the first image to the last. Each is served over the image that the one
-- before it left, or over what a migration made of it.
abbrev pub AreInTurn : Image → List Turn → Image → Type 0
AreInTurn first [] last = last ≡ first
AreInTurn first (turn ∷ turns) last =
    IsServed first turn.events turn.answered turn.final
    × ((next : Image) × IsNextImage (image_of turn.final.memory) next.bytes
    × IsWellFormed next.bytes next.state × AreInTurn next turns last)

-- Calls of the program one after another are a history, from the state of the first image to that of the last.
abbrev pub TurnsAreHistories : Type 0
TurnsAreHistories =
    (first last : Image) (turns : List Turn) → AreInTurn first turns last
    → History first.state (map (λ turn. turn.answered) turns) last.state
