use Rattle.std.proofs.Common.{◌≡◌, ◌≤◌, ℕ, List, length, true, false, Some, None, refl, sym, ap, subst, ◌∙◌}
use Rattle.mb_model.specs.declared.region.Region.{Region}
use Rattle.mb_model.specs.declared.reply.Refusal.TheVariants.{WrongCode, RunFailed}
use Rattle.mb_model.specs.machine.Calls.{key_for}
use Rattle.mb_model.specs.machine.LayerEvents.{code_in, takes_calls}
use Rattle.mb_outbound.specs.Binding.{AreKeysInOrder}
use Rattle.mb_region.specs.Regions.{IsRegionSlot}
use Rattle.mb_device_regions.specs.Runs.{AreSeen}
use Rattle.mb_device_regions.proofs.Called.{call_of, takes_none, takes_some, key_refused, run_failed}
use Rattle.mb_device_regions.proofs.Calling.{code_short, calls_refused, ordered_keys, has_signer, acts_in, known_layers, known_number, can_finish, calls_finished, same_plans}
use Rattle.mb_device_regions.proofs.Demanded.{born_in}
use Rattle.mb_device_regions.proofs.Promised.{plans_then}
use Rattle.mb_device_regions.proofs.calls.call.Goals as goal

pub returns-then-not-takes-clause-calls : goal.returns-then-not-takes-clause-calls
returns-then-not-takes-clause-calls g c =
    let L = g.L.Compartment.place in
    calls_refused L _ c.args.key c.args.input.now c.args.running.now c.args.running.now c.args.s c.reply.result (g.B.Board.seen c.args.b.now) WrongCode c.requires.can_answer.up refl (same_plans c.args.running.now.room) c.reply.ensures
    (λ state ready runs knows codes.
    takes_none state (call_of L c.args.key c.args.input.now) (code_in state.codes L)
    (sym (subst (λ (n : ℕ). false ≡ takes_calls (code_in state.codes n)) c.number-layer.ensures (c.if-not-takes.ensures state codes))))

pub returns-in-Err-check_key-clause-calls : goal.returns-in-Err-check_key-clause-calls
returns-in-Err-check_key-clause-calls g c =
    let L = g.L.Compartment.place in
    calls_refused L _ c.args.key c.args.input.now c.args.running.now (record { known = c.args.running.now.known; room = c.prepare.new.room }) c.args.s c.reply-in-Err-check_key.result (g.B.Board.seen c.args.b.now)
    c.in-Err-check_key.refusal c.requires.can_answer.up refl c.prepare.ensures.plans c.reply-in-Err-check_key.ensures
    (λ state ready runs knows codes.
    key_refused state (call_of L c.args.key c.args.input.now) (code_in state.codes L) c.in-Err-check_key.refusal
    (takes_some (code_in state.codes L) (sym (subst (λ (n : ℕ). true ≡ takes_calls (code_in state.codes n)) c.number-layer.ensures (c.if-not-takes.ensures state codes))))
    (sym (c.in-Err-check_key.ensures ∙ ap (λ (r : Region). key_for c.args.key r) (c.in-Ok.ensures.region state ready))))

pub run_called-requires-clause-code : goal.run_called-requires-clause-code
run_called-requires-clause-code g c =
    let has = c.requires.can_answer.remembered in
    let taken = takes_some (code_in has.state.codes c.number-layer.result) (sym (c.if-not-takes.ensures has.state has.codes)) in
    subst (λ (xs : List ℕ). length xs ≤ 32768) (sym (c.open.ensures.code has.state taken.bytes has.codes taken.is))
    (code_short c.number-layer.result (subst IsRegionSlot (sym c.number-layer.ensures) g.met.L.Named.named) c.args.running.now.known (g.B.Board.seen c.args.b.now).memory.flash has.state taken.bytes has.codes taken.is)

pub answer-requires-clause-signer : goal.answer-requires-clause-signer
answer-requires-clause-signer g c =
    let L = g.L.Compartment.place in
    let has = c.requires.can_answer.remembered in
    let own_is = c.in-Ok.ensures.region has.state has.ready in
    let seen = subst (λ (n : ℕ). AreSeen n c.in-Ok.prepared.region c.args.above has.state.two has.state.three) (sym c.number-layer.ensures)
    (subst (λ (r : Region). AreSeen L r c.args.above has.state.two has.state.three) (sym own_is) (c.requires.above has.state has.ready)) in
    has_signer L c.args.key c.in-Some.acted (g.B.Board.seen c.args.b.now).memory c.in-Ok.prepared.region c.in_default.field-0 (sym c.in_default.ensures) (λ state ready. c.in-Ok.ensures.region state ready)
    (subst AreKeysInOrder (sym own_is) (ordered_keys L (g.B.Board.seen c.args.b.now).memory has.state g.met.L.Named.named has.ready))
    (c.in-Some.ensures.acted has.state.two has.state.three seen).is.keys

pub returns-in-Some-clause-calls : goal.returns-in-Some-clause-calls
returns-in-Some-clause-calls g c =
    let L = g.L.Compartment.place in
    let has = c.requires.can_answer.remembered in
    let memory = (g.B.Board.seen c.args.b.now).memory in
    calls_finished L c.args.key c.args.input.now c.in-Some.acted c.args.running.now c.open.new.running c.answer.new.running c.answer.result (g.B.Board.seen c.args.b.now) (g.B.Board.seen c.answer.new.b) c.open.ensures.known
    (plans_then c.prepare.ensures.plans c.open.ensures.plans) c.answer.ensures.finishes
    (λ state ready. (
    let own_is = c.in-Ok.ensures.region state ready in
    let seen = subst (λ (n : ℕ). AreSeen n c.in-Ok.prepared.region c.args.above state.two state.three) (sym c.number-layer.ensures)
    (subst (λ (r : Region). AreSeen L r c.args.above state.two state.three) (sym own_is) (c.requires.above state ready)) in
    (c.in-Some.ensures.acted state.two state.three seen).is.keys ∙ ap (λ (r : Region). r.keys) own_is))
    (λ state ready runs knows codes. (
    let taken = takes_some (code_in state.codes L) (sym (subst (λ (n : ℕ). true ≡ takes_calls (code_in state.codes n)) c.number-layer.ensures (c.if-not-takes.ensures state codes))) in
    let called = c.open.ensures.code state taken.bytes codes (subst (λ (n : ℕ). code_in state.codes n ≡ Some taken.bytes) (sym c.number-layer.ensures) taken.is) in
    let own_is = c.in-Ok.ensures.region state ready in
    can_finish L c.args.key c.args.input.now c.in-Some.acted c.in_default.field-0 memory state g.met.L.Named.named ready runs taken
    (ap (λ (r : Region). key_for c.args.key r) (sym own_is) ∙ sym c.in_default.ensures)
    (acts_in L c.number-layer.result c.open.new.running.room.called.items taken.bytes c.args.input.now c.in-Ok.prepared.region c.args.above c.open.new.running.known state (Some c.in-Some.acted) c.number-layer.ensures called own_is
    (known_layers c.args.running.now.known c.open.new.running.known memory state c.open.ensures.known knows ready) (known_number c.args.running.now.known c.open.new.running.known state c.open.ensures.known knows)
    (c.requires.above state ready) c.in-Some.ensures.acted)))

pub returns-clause-calls : goal.returns-clause-calls
returns-clause-calls g c =
    let L = g.L.Compartment.place in
    let memory = (g.B.Board.seen c.args.b.now).memory in
    calls_refused L _ c.args.key c.args.input.now c.args.running.now c.open.new.running c.args.s c.reply-in-None.result (g.B.Board.seen c.args.b.now) RunFailed c.requires.can_answer.up c.open.ensures.known
    (plans_then c.prepare.ensures.plans c.open.ensures.plans) c.reply-in-None.ensures
    (λ state ready runs knows codes. (
    let taken = takes_some (code_in state.codes L) (sym (subst (λ (n : ℕ). true ≡ takes_calls (code_in state.codes n)) c.number-layer.ensures (c.if-not-takes.ensures state codes))) in
    let called = c.open.ensures.code state taken.bytes codes (subst (λ (n : ℕ). code_in state.codes n ≡ Some taken.bytes) (sym c.number-layer.ensures) taken.is) in
    let own_is = c.in-Ok.ensures.region state ready in
    run_failed state (call_of L c.args.key c.args.input.now) (code_in state.codes L) c.in_default.field-0 (born_in state) g.met.L.Named.named taken
    (ap (λ (r : Region). key_for c.args.key r) (sym own_is) ∙ sym c.in_default.ensures) refl
    (acts_in L c.number-layer.result c.open.new.running.room.called.items taken.bytes c.args.input.now c.in-Ok.prepared.region c.args.above c.open.new.running.known state None c.number-layer.ensures called own_is
    (known_layers c.args.running.now.known c.open.new.running.known memory state c.open.ensures.known knows ready) (known_number c.args.running.now.known c.open.new.running.known state c.open.ensures.known knows)
    (c.requires.above state ready) c.in-None.ensures.acted)))
