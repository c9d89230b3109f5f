-- An order that is answered while layer 1 runs, as a step of the machine.
use Rattle.std.proofs.Common.{◌≡◌, ℕ, Bool, true, false, Some, refl, sym, ap, subst, ◌∙◌, inl, inr, arith, List}
use Rattle.std.specs.Prelude.{Ok}
use Rattle.mb_ratchet.specs.declared.state.Off.{Off}
use Rattle.mb_model.specs.declared.event.Event.TheVariants as event
use Rattle.mb_model.specs.declared.reply.Reply.{Reply}
use Rattle.mb_model.specs.declared.reply.Reply.TheVariants as reply
use Rattle.mb_model.specs.declared.state.State.{State}
use Rattle.mb_model.specs.outside.Board.{Memory, Meter}
use Rattle.mb_model.specs.machine.Machine.{World, Machine, machine_step}
use Rattle.mb_model.specs.machine.OrderStep.{OrderStep, spells_none, fails_check, is_obeyed}
use Rattle.mb_model.specs.memories.Valid.{Valid}
use Rattle.mb_model_lemmas.proofs.ValidSteps.{machine_valid}
use Rattle.mb_board.specs.Calls.{held_by}
use Rattle.mb_device_orders.specs.declared.remembering.Known.{Known}
use Rattle.mb_device_orders.specs.Obeying.{IsOrderAnswered, answer_lacks, answer_tells, IsOrderCut}
use Rattle.mb_device.specs.declared.device.Device.{Device}
use Rattle.mb_device.specs.declared.device.Device.TheVariants as device
use Rattle.mb_device_orders.specs.declared.remembering.Running.{Running}
use Rattle.mb_device.specs.Sound.{IsSoundDevice, IsRunning, Fits, Steps}
use Rattle.mb_device.specs.Stepping.{stop_told}
use Rattle.mb_device.proofs.Steps as steps
use Rattle.mb_device.proofs.Steps.{live_world, the_world, live_sound, cut_short}
use Rattle.mb_device.proofs.Taken.{same_parts}

-- what the machine makes of it
order_machine : (state next : State) (armed : Bool) (text draw : List ℕ) (answer : Reply) → OrderStep state text draw answer next
    → Machine (live_world 1 state armed) (event.Order text draw) answer (live_world 1 next armed)
order_machine state next armed text draw answer step = inl (refl, (next, step, refl))

module _ (before : Device) (running : Running) (text draw : List ℕ) (old : Memory) (power : Bool) (level : ℕ) (meter : Meter) (world : World)
    (sound : IsSoundDevice before (held_by old power level meter) world) (own : IsRunning 1 running old.flash world) where
  order_so : (next : State) (answer : Reply) → OrderStep own.state text draw answer next → Machine world (event.Order text draw) answer (live_world 1 next world.armed)
  order_so next answer step =
      subst (λ (w : World). Machine w (event.Order text draw) answer (live_world 1 next world.armed)) (sym (the_world world 1 own.state own.phase own.live))
      (order_machine own.state next world.armed text draw answer step)

  pub order_told : (after : Device) (running_new : Running) (answer : Reply) (new : Memory) (power_new : Bool) (level_new : ℕ) (meter_new : Meter)
      → IsOrderAnswered own.state text draw running_new.known answer old new → power_new ≡ power → level_new ≡ level → meter_new.armed ≡ meter.armed → power ≡ true → level ≡ 1
      → ((w : World) → IsRunning 1 running_new new.flash w → Fits after new.flash w) → Steps world (event.Order text draw) answer after (held_by new power_new level_new meter_new)
  order_told after running_new answer new power_new level_new meter_new (answer_lacks wanted same knows codes) same_power same_level same_armed on at fits =
      steps.lacks before after (held_by old power level meter) (held_by new power_new level_new meter_new) world (event.Order text draw) answer wanted refl
      (same_parts old new power power_new level level_new meter meter_new same same_power same_level same_armed) sound
      (subst (λ (m : Memory). Fits after m.flash world) same (fits world (record { phase = own.phase; state = own.state; live = own.live; knows = knows; codes = codes })))
  order_told after running_new answer new power_new level_new meter_new (answer_tells next step ready knows codes) same_power same_level same_armed on at fits =
      let armed : world.armed ≡ meter_new.armed = sound.shown.armed ∙ sym same_armed in
      record {
        next = live_world 1 next meter_new.armed;
        step = machine_step (subst (λ (b : Bool). Machine world (event.Order text draw) answer (live_world 1 next b)) armed (order_so next answer step));
        sound = live_sound after 1 new power_new level_new meter_new next ready (same_power ∙ on) (same_level ∙ at) (omega arith)
            (fits (live_world 1 next meter_new.armed) (record { phase = refl; state = next; live = refl; knows = knows; codes = codes }));
      }

  -- power failed
  pub order_cut : (state : Off) (new : Memory) (power_new : Bool) (level_new : ℕ) (meter_new : Meter) → IsOrderCut own.state text draw new → power_new ≡ false → meter_new.armed ≡ false
      → meter.armed ≡ true → Steps world (event.Order text draw) reply.Stopped (device.Off state) (held_by new power_new level_new meter_new)
  order_cut state new power_new level_new meter_new cut gone disarmed armed =
      let told : Reply = reply.Done cut.number cut.size in
      let whole : World = live_world 1 cut.next world.armed in
      let machine : Machine world (event.Order text draw) told whole = order_so cut.next told cut.step in
      let is_armed : world.armed ≡ true = sound.shown.armed ∙ armed in
      elim (cut.counts) [
        | inl before_it ↦ cut_short state world (event.Order text draw) told whole (Some own.state) new power_new level_new meter_new machine is_armed refl
            (inl (sym own.live)) before_it (subst Valid own.live sound.valid) gone disarmed
        | inr after_it ↦ cut_short state world (event.Order text draw) told whole (Some cut.next) new power_new level_new meter_new machine is_armed refl
            (inr refl) after_it (machine_valid world (event.Order text draw) told whole sound.valid machine) gone disarmed
      ]

-- an order is never answered by a stop
step_goes_on : (state next : State) (text draw : List ℕ) (answer : Reply) → OrderStep state text draw answer next → stop_told answer ≡ Ok tt
step_goes_on state next text draw answer (spells_none none) = ap stop_told none.answered
step_goes_on state next text draw answer (fails_check fails) = ap stop_told fails.answered
step_goes_on state next text draw answer (is_obeyed obeys) = ap stop_told obeys.answered

pub order_goes_on : (state : State) (text draw : List ℕ) (known : Known) (answer : Reply) (old new : Memory) → IsOrderAnswered state text draw known answer old new → stop_told answer ≡ Ok tt
order_goes_on state text draw known answer old new (answer_lacks wanted same knows codes) = ap stop_told wanted
order_goes_on state text draw known answer old new (answer_tells next step ready knows codes) = step_goes_on state next text draw answer step
