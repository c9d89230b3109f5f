-- Laws of what is out of sight. Does an answer tell of the region beneath the layer in control, or of a secret that was
-- not asked for?
use Rattle.std.specs.Prelude.{◌≡◌, ◌≤◌, ℕ, Bool, true, false, List, [], ◌∷◌, All, find, map, Some, option_map}
use Rattle.std.specs.Prelude.{if◌then◌else◌}
use Rattle.mb_model.specs.declared.event.Answered.{Answered}
use Rattle.mb_model.specs.declared.event.Event.{Event}
use Rattle.mb_model.specs.declared.event.Event.TheVariants as event
use Rattle.mb_model.specs.declared.region.Region.{Region}
use Rattle.mb_model.specs.declared.region.Secret.{Secret}
use Rattle.mb_model.specs.declared.reply.Reply.{Reply}
use Rattle.mb_model.specs.declared.reply.Reply.TheVariants as reply
use Rattle.mb_model.specs.declared.state.State.{State}
use Rattle.mb_model.specs.declared.entry.Chain.{Chain}
use Rattle.mb_model.specs.chains.DeviceChains.{IsChainOf}
use Rattle.mb_model.specs.machine.LayerEvents.{has_name}
use Rattle.mb_model.specs.owners.Layers.{is_runnable}
use Rattle.mb_model.specs.machine.Machine.{ratchet, World, Machine, Step, Run}
use Rattle.mb_model.specs.owners.Regions.{empty_region}
use Rattle.mb_model_commands.specs.ChainCommands.{ChainNames, chain_of}
use Rattle.mb_model_commands.specs.Commands.{Past, Ended, CommandEnds}
use Rattle.mb_model_lemmas.specs.RefusalLaws.{BringsBytes}
use Rattle.mb_model_histories.specs.ObeyedOrders.{IsOpen}
use Rattle.mb_model_histories.specs.PowerLaws.{HasOwnAnswer}

-- the world, with the state changed if the device is alive
abbrev pub with_changed_state : (State → State) → World → World
with_changed_state change world = record world { state = option_map change world.state }

-- ---- the region beneath layer 3

-- the world, with nothing in region 2
abbrev pub without_region_two : World → World
without_region_two world = with_changed_state (λ state. record state { two = empty_region }) world

-- While layer 3 is in control, each step is one that would come if region 2 were empty. It leaves that region.
abbrev pub WhatIsBeneathIsOutOfSight : Type 0
WhatIsBeneathIsOutOfSight =
    (world next : World) (this : Event) (answer : Reply) → world.phase ≡ ratchet 3 → Step world this answer next
    → Step (without_region_two world) this answer (without_region_two next)
    × ((before after : State) → world.state ≡ Some before → next.state ≡ Some after → after.two ≡ before.two)

-- layer 3 is in control at each event of the run
abbrev pub RunsInThree : (world : World) (answered : List Answered) (next : World) → Run world answered next → Type 0
RunsInThree world [] next run = Unit {0}
RunsInThree world (this ∷ rest) next run = (world.phase ≡ ratchet 3) × RunsInThree run.0 rest next run.2

-- As long as layer 3 is in control, a run is one that would come, with all its answers, if region 2 were empty.
abbrev pub OutOfSightInRuns : Type 0
OutOfSightInRuns =
    (world next : World) (answered : List Answered) (run : Run world answered next)
    → RunsInThree world answered next run → Run (without_region_two world) answered (without_region_two next)

-- While layer 2 is in control, a secret of its region, if that is open, is read, and is not found if region 2 is empty:
-- that layer 3 is in control cannot be left out.
abbrev pub LayerTwoSeesItsRegion : Type 0
LayerTwoSeesItsRegion =
    (state : State) (secret : Secret) → find (has_name secret.name) state.two.secrets ≡ Some secret
    → is_runnable state.layers 2 ≡ true → IsOpen state 2
    → let world : World = record { state = Some state; phase = ratchet 2; armed = false } in
    let empty : World = without_region_two world in
    Machine world (event.Get 2 secret.name) (reply.Value secret.value) world
    × Machine empty (event.Get 2 secret.name) reply.Absent empty

-- ---- secrets that are not asked for

-- which secrets are hidden, by layer and name
abbrev pub HiddenSecrets : Type 0
HiddenSecrets = ℕ → List ℕ → Bool

-- the value is taken away if it is hidden
abbrev pub veiled_value : Bool → List ℕ → List ℕ
veiled_value hidden value = if hidden then [] else value

-- the secret, with an empty value if it is hidden by its name
abbrev pub veiled_secret : (List ℕ → Bool) → Secret → Secret
veiled_secret hidden secret = record secret { value = veiled_value (hidden secret.name) secret.value }

-- the region, with empty values in place of those that are hidden by their names
abbrev pub veiled_region : (List ℕ → Bool) → Region → Region
veiled_region hidden region = record region { secrets = map (veiled_secret hidden) region.secrets }

-- the state, with empty values in place of the hidden ones
abbrev pub veiled_state : HiddenSecrets → State → State
veiled_state hidden state = record state {
  two = veiled_region (hidden 2) state.two;
  three = veiled_region (hidden 3) state.three;
}

-- the world, with empty values in place of the hidden ones in its state
abbrev pub veiled_world : HiddenSecrets → World → World
veiled_world hidden world = with_changed_state (veiled_state hidden) world

-- the event, with an empty value if it is a `put` of a hidden secret
abbrev pub veiled_event : HiddenSecrets → Event → Event
veiled_event hidden (event.Put layer name value) = event.Put layer name (veiled_value (hidden layer name) value)
veiled_event hidden other = other

-- No secret of a layer is hidden, nor one of a layer above: none that the code of this layer may read.
abbrev pub ReadsNoHidden : HiddenSecrets → ℕ → Type 0
ReadsNoHidden hidden layer = (region : ℕ) (name : List ℕ) → layer ≤ region → hidden region name ≡ false

-- The event asks for no hidden secret: it is no `get` of one, and no `call` of a layer whose code may read one.
abbrev pub AsksNoHidden : HiddenSecrets → Event → Type 0
AsksNoHidden hidden (event.Get layer name) = hidden layer name ≡ false
AsksNoHidden hidden (event.Call layer key input) = ReadsNoHidden hidden layer
AsksNoHidden hidden other = Unit {0}

-- The values of hidden secrets change no answer but that of a `get` of one, and of a `call` of code that may read one:
-- each other step is one that would come if they were empty.
abbrev pub HiddenValuesAreNotSeen : Type 0
HiddenValuesAreNotSeen =
    (hidden : HiddenSecrets) (world next : World) (this : Event) (answer : Reply) → AsksNoHidden hidden this
    → Step world this answer next
    → Step (veiled_world hidden world) (veiled_event hidden this) answer (veiled_world hidden next)

-- the answered event, with an empty value if it is a `put` of a hidden secret
abbrev pub veiled_answered : HiddenSecrets → Answered → Answered
veiled_answered hidden this = record this { event = veiled_event hidden this.event }

-- Over a run that asks for no hidden secret, the answers are those of a run in which the hidden values are empty.
abbrev pub HiddenValuesAreNotSeenInRuns : Type 0
HiddenValuesAreNotSeenInRuns =
    (hidden : HiddenSecrets) (world next : World) (answered : List Answered)
    → All (λ this. AsksNoHidden hidden this.event) answered → Run world answered next
    → Run (veiled_world hidden world) (map (veiled_answered hidden) answered) (veiled_world hidden next)

-- Two runs of worlds and events that differ in hidden values alone, and ask for none of them, have the same answers and
-- lead to such worlds, as long as memory is found and power holds. Orders come in bytes.
abbrev pub HiddenValuesChangeNoAnswer : Type 0
HiddenValuesChangeNoAnswer =
    (hidden : HiddenSecrets) (world other end other_end : World) (answered told : List Answered)
    → veiled_world hidden world ≡ veiled_world hidden other
    → map (λ this. veiled_event hidden this.event) answered ≡ map (λ this. veiled_event hidden this.event) told
    → All (λ this. AsksNoHidden hidden this.event) answered → All (λ this. AsksNoHidden hidden this.event) told
    → All (λ this. BringsBytes this.event) answered → All HasOwnAnswer answered → All HasOwnAnswer told
    → Run world answered end → Run other told other_end
    → (map (λ this. this.reply) answered ≡ map (λ this. this.reply) told)
    × (veiled_world hidden end ≡ veiled_world hidden other_end)

-- The answer to a `get` of a hidden secret does change: if its value is empty, that is what is read.
abbrev pub AskedValuesAreSeen : Type 0
AskedValuesAreSeen =
    (hidden : HiddenSecrets) (world next other : World) (layer : ℕ) (name value : List ℕ) (answer : Reply)
    → hidden layer name ≡ true → Machine world (event.Get layer name) (reply.Value value) next
    → Machine (veiled_world hidden world) (event.Get layer name) answer other → answer ≡ reply.Value []

-- ---- chains

-- Over devices with one log the command `chain` has the same ends, whatever else differs: a chain holds no secret.
abbrev pub ChainsTellOfTheLogAlone : Type 0
ChainsTellOfTheLogAlone =
    (names : ChainNames) (one other : State) (past : Past) (ending : Ended) → one.log ≡ other.log
    → CommandEnds (chain_of names (Some one)) past ending → CommandEnds (chain_of names (Some other)) past ending

-- A chain tells all of the log: two devices with one chain have one log.
abbrev pub ChainsTellOfTheWholeLog : Type 0
ChainsTellOfTheWholeLog =
    (one other : State) (chain : Chain) → IsChainOf one chain → IsChainOf other chain → one.log ≡ other.log
