-- What the machine comes to in each phase.
use Rattle.std.proofs.Common.{◌≡◌, ℕ, ◌≤◌, ◌<◌, Bool, true, false, Option, None, Some, refl, sym, subst, inr, arith, List}
use Rattle.std.specs.Prelude.{zero, suc, Result, Ok, Err}
use Rattle.mb_model.specs.declared.event.Event.{Event}
use Rattle.mb_model.specs.declared.event.Event.TheVariants as event
use Rattle.mb_model.specs.declared.reply.Reply.{Reply}
use Rattle.mb_model.specs.declared.reply.Reply.TheVariants as reply
use Rattle.mb_model.specs.declared.state.State.{State}
use Rattle.mb_model.specs.outside.Board.{phase_at}
use Rattle.mb_model.specs.owners.Layers.{is_runnable}
use Rattle.mb_model.specs.machine.Machine.{Phase, off, dead, ratchet, World, Told, running_state, running_state_in, boot_event, go_event, region_event, CommandStep, Machine}
use Rattle.mb_model.specs.declared.reply.Refusal.{Refusal}
use Rattle.mb_model.specs.declared.reply.Refusal.TheVariants.{PoweredOff, WrongPhase, Zeroised, WrongLayer}
use Rattle.mb_model.specs.machine.Refusals.{refusal_reply}
use Rattle.mb_device.specs.Regions.{IsLayerEvent, region_named, layer_outcome}

-- ---- phases

-- where a layer runs, power is on, and its number is the level
pub at_ratchet : (power : Bool) (level r : ℕ) → ratchet r ≡ phase_at power level → (power ≡ true) × (level ≡ r)
at_ratchet false level r e = absurd (cc)
at_ratchet true zero r e = absurd (cc)
at_ratchet true (suc n) r e = (refl, cc)

pub ratchet_at : (power : Bool) (level r : ℕ) → power ≡ true → level ≡ r → 1 ≤ r → phase_at power level ≡ ratchet r
ratchet_at power level zero on at some = absurd (omega (arith, some))
ratchet_at power level (suc n) on at some = subst (λ (p : Bool). phase_at p level ≡ ratchet (suc n)) (sym on) (subst (λ (l : ℕ). phase_at true l ≡ ratchet (suc n)) (sym at) refl)

pub off_at : (power : Bool) (level : ℕ) → power ≡ false → phase_at power level ≡ off
off_at power level gone = subst (λ (p : Bool). phase_at p level ≡ off) (sym gone) refl

-- ---- whether the device is awake

pub awake_off : (world : World) → world.phase ≡ off → running_state_in world ≡ Err PoweredOff
awake_off world is = subst (λ (p : Phase). running_state p world.state ≡ Err PoweredOff) (sym is) refl

pub awake_dead : (world : World) → world.phase ≡ dead → running_state_in world ≡ Err Zeroised
awake_dead world is = subst (λ (p : Phase). running_state p world.state ≡ Err Zeroised) (sym is) refl

pub awake_at : (world : World) (r : ℕ) (state : State) → world.phase ≡ ratchet r → world.state ≡ Some state → running_state_in world ≡ Ok (r, state)
awake_at world r state is live =
    subst (λ (p : Phase). running_state p world.state ≡ Ok (r, state)) (sym is)
    (subst (λ (o : Option State). running_state (ratchet r) o ≡ Ok (r, state)) (sym live) refl)

-- ---- refusals of a device that is not awake

pub go_refused : (world : World) (refusal : Refusal) → running_state_in world ≡ Err refusal → Machine world event.Go (refusal_reply refusal) world
go_refused world refusal e = subst (λ (on : Result (ℕ × State) Refusal). ◌≡◌ {A = Told} (refusal_reply refusal, world) (go_event world on)) (sym e) refl

pub command_refused : (world : World) (text draw : List ℕ) (refusal : Refusal) → running_state_in world ≡ Err refusal → Machine world (event.Order text draw) (refusal_reply refusal) world
command_refused world text draw refusal e = subst (λ (on : Result (ℕ × State) Refusal). CommandStep world text draw on (refusal_reply refusal) world) (sym e) (refl, refl)

-- any other layer than layer 1 takes no order
pub command_past : (world : World) (text draw : List ℕ) (r : ℕ) (state : State) → 1 < r → running_state_in world ≡ Ok (r, state) → Machine world (event.Order text draw) (refusal_reply WrongPhase) world
command_past world text draw r state past e = subst (λ (on : Result (ℕ × State) Refusal). CommandStep world text draw on (refusal_reply WrongPhase) world) (sym e) (inr (past, refl, refl))

-- ---- control

-- one step of control from layer 1, or from layer 2
pub go_second : (world : World) (state : State) → running_state_in world ≡ Ok (1, state) → is_runnable state.layers 2 ≡ true
    → Machine world event.Go (reply.At 2) (record world { phase = ratchet 2 })
go_second world state e runs =
    subst (λ (on : Result (ℕ × State) Refusal). ◌≡◌ {A = Told} (reply.At 2, record world { phase = ratchet 2 }) (go_event world on)) (sym e) (rw runs refl)

pub go_third : (world : World) (state : State) → running_state_in world ≡ Ok (2, state) → is_runnable state.layers 3 ≡ true
    → Machine world event.Go (reply.At 3) (record world { phase = ratchet 3 })
go_third world state e runs =
    subst (λ (on : Result (ℕ × State) Refusal). ◌≡◌ {A = Told} (reply.At 3, record world { phase = ratchet 3 }) (go_event world on)) (sym e) (rw runs refl)

pub go_no_second : (world : World) (state : State) → running_state_in world ≡ Ok (1, state) → is_runnable state.layers 2 ≡ false → Machine world event.Go (refusal_reply WrongLayer) world
go_no_second world state e runs =
    subst (λ (on : Result (ℕ × State) Refusal). ◌≡◌ {A = Told} (refusal_reply WrongLayer, world) (go_event world on)) (sym e) (rw runs refl)

pub go_no_third : (world : World) (state : State) → running_state_in world ≡ Ok (2, state) → is_runnable state.layers 3 ≡ false → Machine world event.Go (refusal_reply WrongLayer) world
go_no_third world state e runs =
    subst (λ (on : Result (ℕ × State) Refusal). ◌≡◌ {A = Told} (refusal_reply WrongLayer, world) (go_event world on)) (sym e) (rw runs refl)

pub go_past : (world : World) (state : State) → running_state_in world ≡ Ok (3, state) → Machine world event.Go (refusal_reply WrongPhase) world
go_past world state e = subst (λ (on : Result (ℕ × State) Refusal). ◌≡◌ {A = Told} (refusal_reply WrongPhase, world) (go_event world on)) (sym e) refl

-- ---- booting

pub boot_live : (world : World) (state : State) → world.phase ≡ off → world.state ≡ Some state → Machine world event.Boot reply.Booted (record world { phase = ratchet 1 })
boot_live world state is live =
    subst (λ (p : Phase). ◌≡◌ {A = Told} (reply.Booted, record world { phase = ratchet 1 }) (boot_event world p world.state)) (sym is)
    (subst (λ (o : Option State). ◌≡◌ {A = Told} (reply.Booted, record world { phase = ratchet 1 }) (boot_event world off o)) (sym live) refl)

pub boot_none : (world : World) → world.phase ≡ off → world.state ≡ None → Machine world event.Boot (refusal_reply Zeroised) (record world { phase = dead })
boot_none world is none =
    subst (λ (p : Phase). ◌≡◌ {A = Told} (refusal_reply Zeroised, record world { phase = dead }) (boot_event world p world.state)) (sym is)
    (subst (λ (o : Option State). ◌≡◌ {A = Told} (refusal_reply Zeroised, record world { phase = dead }) (boot_event world off o)) (sym none) refl)

pub boot_dead : (world : World) → world.phase ≡ dead → Machine world event.Boot (refusal_reply Zeroised) world
boot_dead world is = subst (λ (p : Phase). ◌≡◌ {A = Told} (refusal_reply Zeroised, world) (boot_event world p world.state)) (sym is) refl

pub boot_again : (world : World) (r : ℕ) → world.phase ≡ ratchet r → Machine world event.Boot (refusal_reply WrongPhase) world
boot_again world r is = subst (λ (p : Phase). ◌≡◌ {A = Told} (refusal_reply WrongPhase, world) (boot_event world p world.state)) (sym is) refl

-- ---- the uses of regions

-- what the machine makes of a layer's event, by whether the device is awake
pub by_region : (world : World) (e : Event) (answer : Reply) (next : World) → IsLayerEvent e
    → ◌≡◌ {A = Told} (answer, next) (region_event world (region_named e) (layer_outcome (region_named e) e) (running_state_in world)) → Machine world e answer next
by_region world (event.Put L name value) answer next is told = told
by_region world (event.Get L name) answer next is told = told
by_region world (event.Drop L name) answer next is told = told
by_region world (event.Sign L key message) answer next is told = told
by_region world (event.Call L key input) answer next is told = absurd is
by_region world event.Boot answer next is told = absurd is
by_region world event.Off answer next is told = absurd is
by_region world event.Tamper answer next is told = absurd is
by_region world event.Status answer next is told = absurd is
by_region world event.Go answer next is told = absurd is
by_region world (event.Cut count tear) answer next is told = absurd is
by_region world (event.Order text draw) answer next is told = absurd is
