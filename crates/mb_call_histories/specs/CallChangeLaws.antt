-- Laws of what calls change. Can a call be done by halves, or the region of code that takes calls be changed by anybody
-- else?
use Rattle.std.specs.Prelude.{◌≡◌, ◌≢◌, ◌⊎◌, ℕ, List, Option, None, Some, false}
use Rattle.mb_format.specs.Format.{IsBytes}
use Rattle.mb_model.specs.declared.event.Answered.{Answered}
use Rattle.mb_model.specs.declared.event.Event.{Event}
use Rattle.mb_model.specs.declared.event.Event.TheVariants as event
use Rattle.mb_model.specs.declared.order.Order.{Order}
use Rattle.mb_model.specs.declared.region.Secret.{Secret}
use Rattle.mb_model.specs.declared.reply.Reply.{Reply}
use Rattle.mb_model.specs.declared.reply.Reply.TheVariants as reply
use Rattle.mb_model.specs.declared.running.AppEnd.TheVariants as end
use Rattle.mb_model.specs.declared.state.State.{State}
use Rattle.mb_model.specs.application.Runs.{AppRun, readable_secrets}
use Rattle.mb_model.specs.machine.LayerEvents.{with_use}
use Rattle.mb_model.specs.machine.Machine.{ratchet, World, Machine, Step, Run}
use Rattle.mb_model.specs.owners.Layers.{Runnable}
use Rattle.mb_model.specs.owners.Regions.{empty_region, region_of, with_region}
use Rattle.mb_model_histories.specs.ObeyedOrders.{ObeysAt, IsOpen, IsSealed}
use Rattle.mb_model_histories.specs.SightLaws.{with_changed_state}
use Rattle.mb_call_histories.specs.AcceptedCallLaws.{RunsWith}

-- ---- a call is done wholly or not at all

-- the state after the demands were met, with one more use of the key if one was asked for
abbrev pub after_use : ℕ → Option ℕ → State → State
after_use layer None done = done
after_use layer (Some number) done =
    with_region done layer (record (region_of done layer) { keys = with_use number (region_of done layer).keys })

-- A call leaves the state as it was, or with all that its code asked for and one use of the key: wherever power fails.
abbrev pub CallsCountWholly : Type 0
CallsCountWholly =
    (here next : World) (layer : ℕ) (key : Option ℕ) (input : List ℕ) (answer : Reply) (state : State)
    → Step here (event.Call layer key input) answer next → here.state ≡ Some state
    → (next.state ≡ Some state)
    ⊎ ((said : List ℕ) × (ran : RunsWith state layer input said) × (next.state ≡ Some (after_use layer key ran.done)))

-- What is answered without a key is what the code answered, and what it asked for is done.
abbrev pub CalledIsWhatCodeSays : Type 0
CalledIsWhatCodeSays =
    (here next : World) (layer : ℕ) (key : Option ℕ) (input said : List ℕ) (state : State)
    → Step here (event.Call layer key input) (reply.Called said) next → here.state ≡ Some state
    → (key ≡ None) × ((ran : RunsWith state layer input said) × (next.state ≡ Some ran.done))

-- ---- regions of code that takes calls

-- The region of a layer whose code takes calls changes at a call of that layer, at an order that is obeyed, and at
-- nothing else.
abbrev pub SealedRegionsChangeByCalls : Type 0
SealedRegionsChangeByCalls =
    (here next : World) (this : Event) (answer : Reply) (before after : State) (layer : ℕ)
    → Step here this answer next → here.state ≡ Some before → next.state ≡ Some after → IsSealed before layer
    → (region_of after layer ≡ region_of before layer)
    ⊎ ((key : Option ℕ) × (input : List ℕ) × (this ≡ event.Call layer key input))
    ⊎ ((order : Order) × ObeysAt here this next order)

-- Nothing of such a region is told but by a call: a `get` of it is answered with no value.
abbrev pub SealedRegionsAnswerNothing : Type 0
SealedRegionsAnswerNothing =
    (here next : World) (layer : ℕ) (name value : List ℕ) (before : State) → here.state ≡ Some before
    → IsSealed before layer → Step here (event.Get layer name) (reply.Value value) next → ⊥

-- That the code takes calls cannot be left out: while layer 1 is in control, a `put` into a region that is empty and
-- open is answered `kept`, and code of layer 2 is then given other secrets.
abbrev pub OpenRegionsAreAnybodys : Type 0
OpenRegionsAreAnybodys =
    (state : State) (name value : List ℕ) → Runnable state.layers 2 → IsOpen state 2
    → let before : State = record state { two = empty_region } in
    let world : World = record { state = Some before; phase = ratchet 1; armed = false } in
    (after : State) × Machine world (event.Put 2 name value) reply.Kept (record world { state = Some after })
    × (readable_secrets after.layers 2 after.two after.three 2
    ≢ readable_secrets before.layers 2 before.two before.three 2)

-- ---- nothing new

-- the world, in which no layer has code
abbrev pub without_codes : World → World
without_codes world =
    with_changed_state (λ state. record state { codes = record { one = None; two = None; three = None } }) world

-- Where a call leads, puts and drops of its region, one signature and power lead too, in a device without code: a call
-- comes to no state of regions to which these do not lead.
abbrev pub CallsReachNothingNew : Type 0
CallsReachNothingNew =
    (here next : World) (layer : ℕ) (key : Option ℕ) (input : List ℕ) (answer : Reply)
    → Step here (event.Call layer key input) answer next
    → (answered : List Answered) × Run (without_codes here) answered (without_codes next)

-- What code emits is bytes, so that its action can be read.
abbrev pub OutputsAreBytes : Type 0
OutputsAreBytes =
    (code input : List ℕ) (secrets : ℕ → Option (List Secret)) (most steps : ℕ) (output : List ℕ)
    → AppRun code input secrets most (end.Halted steps output) → IsBytes output
