use Rattle.std.proofs.Common.{◌≡◌, ◌∙◌, Some, sym, ap, subst, arith, length}
use Rattle.mb_model.specs.outside.Board.{Memory, Held, Ledger, Meter, IsLoaded, AreBytes, memory_after, stops_by_answer}
use Rattle.mb_model.specs.declared.event.Event.{Event}
use Rattle.mb_model.specs.memories.Clean.{Clean}
use Rattle.mb_model.specs.memories.Spared.{SparesSectors}
use Rattle.mb_boot.specs.Booting.{IsQuiet}
use Rattle.mb_device.specs.Stepping.{IfBoot}
use Rattle.mb_board.specs.Calls.{held_by}
use Rattle.mb_device.proofs.Taken.{taken_by, same_parts}
use Rattle.mb_device.proofs.Stops.{counted_by_answer}
use Rattle.mb_device.proofs.Serves.{serves_first, can_step, may_answer, serves_more, used_in_all, served}
use Rattle.mb_device.proofs.device.Device.serve.Goals as goal

pub events-init : goal.events-init
events-init g c = (
  serves_first (g.B.Board.seen c.args.b.now).ledger c.args.self _ c.requires.between.none_out c.requires.between.standing c.requires.events c.requires.sound,
  c.requires.between.stops,
  omega arith,
)

pub take-requires : goal.take-requires
take-requires g c = c.events.invariant.0.none_out

pub step-next-requires-clause-can_step : goal.step-next-requires-clause-can_step
step-next-requires-clause-can_step g c =
    let some = c.in-Some.ensures.some in
    can_step _ _ _ c.events.device (g.B.Board.seen c.events.b).ledger (held_by (g.B.Board.seen c.events.b).memory (g.B.Board.seen c.events.b).power (g.B.Board.seen c.events.b).level (g.B.Board.seen c.events.b).meter) _ c.in-Some.event some.0 c.events.invariant.0 some.1
    (taken_by c.in-Some.event (g.B.Board.seen c.events.b).memory (g.B.Board.seen c.take.new.self).memory (g.B.Board.seen c.events.b).power (g.B.Board.seen c.take.new.self).power (g.B.Board.seen c.events.b).level (g.B.Board.seen c.take.new.self).level (g.B.Board.seen c.events.b).meter (g.B.Board.seen c.take.new.self).meter
    c.in-Some.ensures.memory c.in-Some.ensures.power c.in-Some.ensures.level (ap (λ (m : Meter). m.armed) c.in-Some.ensures.meter))

pub answer-requires-clause-step : goal.answer-requires-clause-step
answer-requires-clause-step g c =
    let some = c.in-Some.ensures.some in
    let before : Held = held_by (g.B.Board.seen c.events.b).memory (g.B.Board.seen c.events.b).power (g.B.Board.seen c.events.b).level (g.B.Board.seen c.events.b).meter in
    let after : Held = held_by (g.B.Board.seen c.step-next.new.b).memory (g.B.Board.seen c.step-next.new.b).power (g.B.Board.seen c.step-next.new.b).level (g.B.Board.seen c.step-next.new.b).meter in
    may_answer _ _ _ c.events.device c.step-next.result.0 (g.B.Board.seen c.events.b).ledger (g.B.Board.seen c.take.new.self).ledger (g.B.Board.seen c.step-next.new.b).ledger before after c.in-Some.event some.0 c.step-next.result.1
    c.events.invariant.0 some.2 c.step-next.ensures.events.ledger
    (λ world sound. c.step-next.ensures.steps before world sound
    (taken_by c.in-Some.event (g.B.Board.seen c.events.b).memory (g.B.Board.seen c.take.new.self).memory (g.B.Board.seen c.events.b).power (g.B.Board.seen c.take.new.self).power (g.B.Board.seen c.events.b).level (g.B.Board.seen c.take.new.self).level (g.B.Board.seen c.events.b).meter (g.B.Board.seen c.take.new.self).meter
    c.in-Some.ensures.memory c.in-Some.ensures.power c.in-Some.ensures.level (ap (λ (m : Meter). m.armed) c.in-Some.ensures.meter)))
    (record {
      bytes = subst AreBytes c.in-Some.ensures.memory (record { flash = c.in-Some.ensures.flash_bytes; bbram = c.in-Some.ensures.bbram_bytes });
      untold = λ quiet. (c.step-next.ensures.untold quiet).0 ∙ c.in-Some.ensures.memory;
      spared = subst (λ (m : Memory). SparesSectors m (g.B.Board.seen c.step-next.new.b).memory) c.in-Some.ensures.memory c.step-next.ensures.spared;
      quiet = λ is state clean. (
          let same : (g.B.Board.seen c.take.new.self).memory ≡ (g.B.Board.seen c.events.b).memory = c.in-Some.ensures.memory ∙ ap (λ (x : Event). memory_after (Some x) (g.B.Board.seen c.events.b).memory) is in
          let boots = subst (λ (x : Event). IfBoot x (IsQuiet (g.B.Board.seen c.take.new.self).memory (g.B.Board.seen c.step-next.new.b).memory (g.B.Board.seen c.take.new.self).meter (g.B.Board.seen c.step-next.new.b).meter)) is c.step-next.ensures.quiet in
          (boots.quiet state (subst (λ (m : Memory). Clean m.bbram (Some state)) (sym same) clean)).0 ∙ same);
    })

-- the answer is `stopped` exactly if a write call was stopped
pub answer-requires-clause-stops : goal.answer-requires-clause-stops
answer-requires-clause-stops g c =
    let some = c.in-Some.ensures.some in
    let same : (g.B.Board.seen c.step-next.new.b).ledger.stops ≡ (g.B.Board.seen c.take.new.self).meter.stops =
    ap (λ (l : Ledger). l.stops) (c.step-next.ensures.events.ledger ∙ some.2) ∙ c.events.invariant.1
    ∙ sym (ap (λ (m : Meter). m.stops) c.in-Some.ensures.meter) in
    c.step-next.ensures.events.meter.stops ∙ counted_by_answer c.step-next.result.1 (g.B.Board.seen c.take.new.self).meter.stops
    ∙ ap (stops_by_answer c.step-next.result.1) (sym same)

pub answer-requires-clause-writes : goal.answer-requires-clause-writes
answer-requires-clause-writes g c =
    omega (arith, c.step-next.ensures.events.meter.writes, ap (λ (m : Meter). m.writes) c.in-Some.ensures.meter)

pub events-smaller : goal.events-smaller
events-smaller g c =
    let some = c.in-Some.ensures.some in
    let now : (g.B.Board.seen c.answer.new.self).ledger.waiting ≡ some.0 = ap (λ (l : Ledger). l.waiting) c.answer.ensures.ledger ∙ ap (λ (l : Ledger). l.waiting) (c.step-next.ensures.events.ledger ∙ some.2) in
    omega (arith, ap length now, ap length some.1)

pub events-preserved : goal.events-preserved
events-preserved g c =
    let some = c.in-Some.ensures.some in
    let before : Held = held_by (g.B.Board.seen c.events.b).memory (g.B.Board.seen c.events.b).power (g.B.Board.seen c.events.b).level (g.B.Board.seen c.events.b).meter in
    let after : Held = held_by (g.B.Board.seen c.step-next.new.b).memory (g.B.Board.seen c.step-next.new.b).power (g.B.Board.seen c.step-next.new.b).level (g.B.Board.seen c.step-next.new.b).meter in
    let now : Held = held_by (g.B.Board.seen c.answer.new.self).memory (g.B.Board.seen c.answer.new.self).power (g.B.Board.seen c.answer.new.self).level (g.B.Board.seen c.answer.new.self).meter in
    let served_on = serves_more _ _ _ c.events.device c.step-next.result.0 (g.B.Board.seen c.events.b).ledger (g.B.Board.seen c.take.new.self).ledger (g.B.Board.seen c.step-next.new.b).ledger (g.B.Board.seen c.answer.new.self).ledger before after now (g.B.Board.seen c.step-next.new.b).meter.stops c.in-Some.event some.0 c.step-next.result.1
    c.events.invariant.0 some.1 some.2 c.step-next.ensures.events.ledger
    (λ world sound. c.step-next.ensures.steps before world sound
    (taken_by c.in-Some.event (g.B.Board.seen c.events.b).memory (g.B.Board.seen c.take.new.self).memory (g.B.Board.seen c.events.b).power (g.B.Board.seen c.take.new.self).power (g.B.Board.seen c.events.b).level (g.B.Board.seen c.take.new.self).level (g.B.Board.seen c.events.b).meter (g.B.Board.seen c.take.new.self).meter
    c.in-Some.ensures.memory c.in-Some.ensures.power c.in-Some.ensures.level (ap (λ (m : Meter). m.armed) c.in-Some.ensures.meter)))
    (record {
      bytes = subst AreBytes c.in-Some.ensures.memory (record { flash = c.in-Some.ensures.flash_bytes; bbram = c.in-Some.ensures.bbram_bytes });
      untold = λ quiet. (c.step-next.ensures.untold quiet).0 ∙ c.in-Some.ensures.memory;
      spared = subst (λ (m : Memory). SparesSectors m (g.B.Board.seen c.step-next.new.b).memory) c.in-Some.ensures.memory c.step-next.ensures.spared;
      quiet = λ is state clean. (
          let same : (g.B.Board.seen c.take.new.self).memory ≡ (g.B.Board.seen c.events.b).memory = c.in-Some.ensures.memory ∙ ap (λ (x : Event). memory_after (Some x) (g.B.Board.seen c.events.b).memory) is in
          let boots = subst (λ (x : Event). IfBoot x (IsQuiet (g.B.Board.seen c.take.new.self).memory (g.B.Board.seen c.step-next.new.b).memory (g.B.Board.seen c.take.new.self).meter (g.B.Board.seen c.step-next.new.b).meter)) is c.step-next.ensures.quiet in
          (boots.quiet state (subst (λ (m : Memory). Clean m.bbram (Some state)) (sym same) clean)).0 ∙ same);
    })
    c.answer.ensures.ledger
    (same_parts (g.B.Board.seen c.step-next.new.b).memory (g.B.Board.seen c.answer.new.self).memory (g.B.Board.seen c.step-next.new.b).power (g.B.Board.seen c.answer.new.self).power (g.B.Board.seen c.step-next.new.b).level (g.B.Board.seen c.answer.new.self).level (g.B.Board.seen c.step-next.new.b).meter (g.B.Board.seen c.answer.new.self).meter
    c.answer.ensures.memory c.answer.ensures.power c.answer.ensures.level (ap (λ (m : Meter). m.armed) c.answer.ensures.meter)) in
    let waiting : (g.B.Board.seen c.answer.new.self).ledger.waiting ≡ some.0 =
    ap (λ (l : Ledger). l.waiting) c.answer.ensures.ledger ∙ ap (λ (l : Ledger). l.waiting) (c.step-next.ensures.events.ledger ∙ some.2) in (
      served_on,
      ap (λ (l : Ledger). l.stops) c.answer.ensures.ledger ∙ sym (ap (λ (m : Meter). m.stops) c.answer.ensures.meter),
      omega (arith, c.events.invariant.2, c.step-next.ensures.cost, ap length waiting, ap length some.1),
    )

pub returns-clause-served : goal.returns-clause-served
returns-clause-served g c = λ world sound.
    served (g.B.Board.seen c.args.b.now).ledger c.args.self _ c.events.device (g.B.Board.seen c.events.b).ledger (g.B.Board.seen c.take.new.self).ledger
    (held_by (g.B.Board.seen c.events.b).memory (g.B.Board.seen c.events.b).power (g.B.Board.seen c.events.b).level (g.B.Board.seen c.events.b).meter) _ world c.events.invariant.0 sound
    (record { flash = c.in_default.ensures.flash_bytes; bbram = c.in_default.ensures.bbram_bytes }) c.in_default.ensures.none.0 c.in_default.ensures.none.1
    (same_parts (g.B.Board.seen c.events.b).memory (g.B.Board.seen c.take.new.self).memory (g.B.Board.seen c.events.b).power (g.B.Board.seen c.take.new.self).power (g.B.Board.seen c.events.b).level (g.B.Board.seen c.take.new.self).level (g.B.Board.seen c.events.b).meter (g.B.Board.seen c.take.new.self).meter
    c.in_default.ensures.memory c.in_default.ensures.power c.in_default.ensures.level (ap (λ (m : Meter). m.armed) c.in_default.ensures.meter))

pub returns-clause-between : goal.returns-clause-between
returns-clause-between g c = record {
  none_out = ap (λ (l : Ledger). l.out) c.in_default.ensures.none.1 ∙ c.events.invariant.0.none_out;
  standing =
      ap (λ (l : Ledger). l.standing) c.in_default.ensures.none.1 ∙ c.events.invariant.0.standing
      ∙ sym (same_parts (g.B.Board.seen c.events.b).memory (g.B.Board.seen c.take.new.self).memory (g.B.Board.seen c.events.b).power (g.B.Board.seen c.take.new.self).power (g.B.Board.seen c.events.b).level (g.B.Board.seen c.take.new.self).level (g.B.Board.seen c.events.b).meter (g.B.Board.seen c.take.new.self).meter
      c.in_default.ensures.memory c.in_default.ensures.power c.in_default.ensures.level (ap (λ (m : Meter). m.armed) c.in_default.ensures.meter));
  stops =
      ap (λ (l : Ledger). l.stops) c.in_default.ensures.none.1 ∙ c.events.invariant.1
      ∙ sym (ap (λ (m : Meter). m.stops) c.in_default.ensures.meter);
}

pub returns-clause-used : goal.returns-clause-used
returns-clause-used g c =
    used_in_all (g.B.Board.seen c.args.b.now).ledger c.args.self _ c.events.device (g.B.Board.seen c.events.b).ledger (g.B.Board.seen c.take.new.self).ledger _ c.events.invariant.0 c.in_default.ensures.none.1

pub returns-clause-none_waits : goal.returns-clause-none_waits
returns-clause-none_waits g c = ap (λ (l : Ledger). l.waiting) c.in_default.ensures.none.1 ∙ c.in_default.ensures.none.0

pub returns-clause-cost : goal.returns-clause-cost
returns-clause-cost g c = omega (arith, c.events.invariant.2)

pub returns-clause-loaded : goal.returns-clause-loaded
returns-clause-loaded g c =
    let has = c.events.invariant.0.some in
    subst IsLoaded (sym c.in_default.ensures.memory) has.sound.shown.stands.sized
