use Rattle.std.proofs.Common.{arith, ap, ◌∙◌, ℕ, sym}
use Rattle.std.proofs.lemmas.Bool.{eqb-true, eqb-false}
use Rattle.mb_appvm.proofs.Actions.{calls, calls_no_more}
use Rattle.mb_appvm.proofs.machine.Machine.call.Goals as goal

pub returns-then-is_full : goal.returns-then-is_full
returns-then-is_full c = λ s.
    let full = eqb-true _ _ (sym c.is_full.ensures.value ∙ c.if-is_full.true) in
    calls_no_more s c.args.to c.args.next c.args.self.now (omega (arith, full))

pub returns : goal.returns
returns c = λ s.
    let room = eqb-false _ _ (sym c.is_full.ensures.value ∙ c.if-is_full.false) in
    calls s c.args.to c.args.next c.args.self.now c.go.new.self c.push.new.self c.go.result (omega (arith, room, c.is_full.ensures.fits)) c.push.ensures.items c.go.ensures.goes
    (c.go.ensures.place ∙ ap (λ (n : ℕ). record c.args.self.now { returns = c.push.new.self; place = n }) c.from.ensures)
