-- The machine of owners and layers: what each event comes to in each phase, and what a power loss leaves. What can a
-- device answer, and what can it then be?
use Rattle.std.specs.Prelude.{◌≡◌, ℕ, ◌+◌, ◌<◌, nat_lt, Bool, true, false, ◌⊎◌, List, [], ◌∷◌, length, Option, None}
use Rattle.std.specs.Prelude.{Some, Result, Ok, Err, IsTrue, if◌then◌else◌}
use Rattle.mb_model.specs.declared.event.Event.{Event}
use Rattle.mb_model.specs.declared.event.Event.TheVariants as event
use Rattle.mb_model.specs.declared.event.Answered.{Answered}
use Rattle.mb_model.specs.declared.reply.Reply.{Reply}
use Rattle.mb_model.specs.declared.reply.Reply.TheVariants as reply
use Rattle.mb_model.specs.declared.state.State.{State}
use Rattle.mb_model.specs.owners.Layers.{is_runnable, layer_standing}
use Rattle.mb_model.specs.owners.Log.{entries_of, number_of}
use Rattle.mb_model.specs.declared.reply.Refusal.{Refusal}
use Rattle.mb_model.specs.declared.reply.Refusal.TheVariants.{PoweredOff, WrongPhase, Zeroised, WrongLayer}
use Rattle.mb_model.specs.machine.Refusals.{refusal_reply}
use Rattle.mb_model.specs.machine.OrderStep.{OrderStep}
use Rattle.mb_model.specs.machine.Calls.{Call, OnLayer}
use Rattle.mb_model.specs.machine.LayerEvents.{Outcome, on_region, put_event, get_event, drop_event, sign_event}

-- where control is: power is off, the device is on and dead, or the layer with this number runs, which is 1, 2 or 3
pub data Phase : Type 0 where
  off : Phase
  dead : Phase
  ratchet : ℕ → Phase

-- A device as the machine sees it: its state, none if it is dead; its phase; whether a power loss is armed.
pub record World : Type 0 where
  pub state : Option State
  pub phase : Phase
  pub armed : Bool

-- a device before its first event: power is off, and no power loss is armed
abbrev pub opening_world : Option State → World
opening_world state = record { state = state; phase = off; armed = false }

-- what an event comes to in a world: its reply, and the world afterwards
abbrev pub Told : Type 0
Told = Reply × World

-- Power comes on.
abbrev pub boot_event : World → Phase → Option State → Told
boot_event world off (Some state) = (reply.Booted, record world { phase = ratchet 1 })
boot_event world off None = (refusal_reply Zeroised, record world { phase = dead })
boot_event world dead state = (refusal_reply Zeroised, world)
boot_event world (ratchet level) state = (refusal_reply WrongPhase, world)

-- The layer that runs, and the state of the device, if it is on and alive. Every event but boot, off, tamper and cut
-- needs them.
abbrev pub running_state : Phase → Option State → Result (ℕ × State) Refusal
running_state off state = Err PoweredOff
running_state dead state = Err Zeroised
running_state (ratchet level) None = Err Zeroised
running_state (ratchet level) (Some state) = Ok (level, state)

abbrev pub running_state_in : World → Result (ℕ × State) Refusal
running_state_in world = running_state world.phase world.state

-- the reply that says how the device stands
unfoldable pub status_of : State → Reply
status_of state =
    let number = number_of (entries_of state.log) in
    let one = layer_standing state.layers 1 in
    let two = layer_standing state.layers 2 in
    let three = layer_standing state.layers 3 in
    reply.Status state.serial number (length state.log) one two three

abbrev pub status_event : World → Result (ℕ × State) Refusal → Told
status_event world (Err refusal) = (refusal_reply refusal, world)
status_event world (Ok on) = (status_of on.1, world)

-- Control goes to the next layer, if there is one and it may run. There is no way back but a boot.
abbrev pub go_event : World → Result (ℕ × State) Refusal → Told
go_event world (Err refusal) = (refusal_reply refusal, world)
go_event world (Ok on) =
    if nat_lt 2 on.0 then (refusal_reply WrongPhase, world)
    else if is_runnable on.1.layers (on.0 + 1)
    then (reply.At (on.0 + 1), record world { phase = ratchet (on.0 + 1) })
    else (refusal_reply WrongLayer, world)

-- what a layer does with a region
abbrev pub region_event : World → ℕ → (State → Outcome) → Result (ℕ × State) Refusal → Told
region_event world layer does (Err refusal) = (refusal_reply refusal, world)
region_event world layer does (Ok on) =
    let outcome = on_region on.0 layer does on.1 in
    (outcome.0, record world { state = Some outcome.1 })

-- Orders are obeyed only while layer 1 runs.
abbrev pub CommandStep : World → List ℕ → List ℕ → Result (ℕ × State) Refusal → Reply → World → Type 0
CommandStep world text draw (Err refusal) answer next = (answer ≡ refusal_reply refusal) × (next ≡ world)
CommandStep world text draw (Ok on) answer next =
    ((on.0 ≡ 1)
    × ((state : State) × OrderStep on.1 text draw answer state × (next ≡ record world { state = Some state })))
    ⊎ ((1 < on.0) × (answer ≡ refusal_reply WrongPhase) × (next ≡ world))

-- a call, once a layer runs on a device that is alive
abbrev pub CallTold : World → Call → Result (ℕ × State) Refusal → Reply → World → Type 0
CallTold world call (Err refusal) answer next = (answer ≡ refusal_reply refusal) × (next ≡ world)
CallTold world call (Ok on) answer next =
    (outcome : Outcome) × OnLayer on.0 call on.1 outcome × (answer ≡ outcome.0)
    × (next ≡ record world { state = Some outcome.1 })

-- An event has this reply and leads to this world, if no allocation fails and power holds.
abbrev pub Machine : World → Event → Reply → World → Type 0
Machine world event.Boot answer next = (answer, next) ≡ boot_event world world.phase world.state
Machine world event.Off answer next = (answer ≡ reply.Off) × (next ≡ record world { phase = off })
Machine world event.Tamper answer next =
    (answer ≡ reply.Tampered) × (next ≡ record world { phase = off; state = None })
Machine world (event.Cut count tear) answer next = (answer ≡ reply.Armed) × (next ≡ record world { armed = true })
Machine world event.Status answer next = (answer, next) ≡ status_event world (running_state_in world)
Machine world (event.Order text draw) answer next = CommandStep world text draw (running_state_in world) answer next
Machine world event.Go answer next = (answer, next) ≡ go_event world (running_state_in world)
Machine world (event.Put layer name value) answer next =
    (answer, next) ≡ region_event world layer (put_event layer name value) (running_state_in world)
Machine world (event.Get layer name) answer next =
    (answer, next) ≡ region_event world layer (get_event layer name) (running_state_in world)
Machine world (event.Drop layer name) answer next =
    (answer, next) ≡ region_event world layer (drop_event layer name) (running_state_in world)
Machine world (event.Sign layer key message) answer next =
    (answer, next) ≡ region_event world layer (sign_event layer key message) (running_state_in world)
Machine world (event.Call layer key input) answer next =
    CallTold world (record { layer = layer; key = key; input = input }) (running_state_in world) answer next

-- the events that may need to allocate memory
abbrev pub may_want_memory : Event → Bool
may_want_memory event.Boot = true
may_want_memory event.Status = true
may_want_memory (event.Order text draw) = true
may_want_memory (event.Put layer name value) = true
may_want_memory (event.Get layer name) = true
may_want_memory (event.Drop layer name) = true
may_want_memory (event.Sign layer key message) = true
may_want_memory (event.Call layer key input) = true
may_want_memory event.Off = false
may_want_memory event.Tamper = false
may_want_memory event.Go = false
may_want_memory (event.Cut count tear) = false

-- the replies to events that write, so that a power loss can fall into the writes
abbrev pub may_be_cut : Reply → Bool
may_be_cut reply.Booted = true
may_be_cut (reply.Done number size) = true
may_be_cut reply.Kept = true
may_be_cut reply.Dropped = true
may_be_cut (reply.Signed key index statement) = true
may_be_cut (reply.Called answer) = true
may_be_cut reply.Off = false
may_be_cut reply.Tampered = false
may_be_cut reply.Armed = false
may_be_cut (reply.At level) = false
may_be_cut (reply.Value bytes) = false
may_be_cut reply.Absent = false
may_be_cut (reply.Status serial number size one two three) = false
may_be_cut (reply.Refused refusal) = false
may_be_cut reply.Stopped = false
may_be_cut reply.NoMemory = false

-- the answer is one to an event that writes, or says that power failed
abbrev pub may_have_written : Reply → Bool
may_have_written reply.Stopped = true
may_have_written other = may_be_cut other

-- an allocation failed: nothing has changed
pub record LacksMemory (world : World) (event : Event) (answer : Reply) (next : World) : Type 0 where
  pub answered : answer ≡ reply.NoMemory
  pub wanted : IsTrue (may_want_memory event)
  pub stays : next ≡ world

-- The power loss that was armed has happened: the event counts wholly or not at all.
pub record LosesPower (world : World) (event : Event) (answer : Reply) (next : World) : Type 0 where
  -- what the machine would answer, and where it would lead, if power held
  pub told : Reply
  pub whole : World
  pub machine : Machine world event told whole
  pub armed : IsTrue world.armed
  pub writes : IsTrue (may_be_cut told)
  -- the state that is left
  pub state : Option State
  pub counts : (state ≡ world.state) ⊎ (state ≡ whole.state)
  pub answered : answer ≡ reply.Stopped
  pub follows : next ≡ record { state = state; phase = off; armed = false }

-- One step: from `world`, `event` has the reply `answer` and leads to `next`. There are no other steps.
pub data Step (world : World) (event : Event) (answer : Reply) (next : World) : Type 0 where
  -- the machine's own answer
  machine_step : Machine world event answer next → Step world event answer next
  lacks_memory : LacksMemory world event answer next → Step world event answer next
  loses_power : LosesPower world event answer next → Step world event answer next

-- the answered events are steps, one after another, from `world` to `next`
abbrev pub Run : World → List Answered → World → Type 0
Run world [] next = next ≡ world
Run world (this ∷ rest) next = (mid : World) × Step world this.event this.reply mid × Run mid rest next
