use Rattle.std.proofs.Common.{ℕ, sym, ap, ◌∙◌, arith}
use Rattle.mb_policy.specs.Reading.{layer_in}
use Rattle.mb_policy.proofs.Parts.{no_layer, layer_zero, layer_some}
use Rattle.mb_policy.proofs.operands.read_layer.Goals as goal

pub returns-in_default : goal.returns-in_default
returns-in_default c =
    sym (ap (λ (n : ℕ). layer_in n c.args.word.now) (sym c.from.ensures) ∙ no_layer c.from.result c.args.word.now c.in_default.ensures)

pub returns-then-layer-eq0 : goal.returns-then-layer-eq0
returns-then-layer-eq0 c =
    sym (ap (λ (n : ℕ). layer_in n c.args.word.now) (sym c.from.ensures)
    ∙ layer_zero c.from.result c.args.word.now c.in-Some.layer (omega (arith, c.ranges.last, c.from.ensures)) c.in-Some.ensures c.if-layer-eq0.true)

pub returns : goal.returns
returns c =
    sym (ap (λ (n : ℕ). layer_in n c.args.word.now) (sym c.from.ensures)
    ∙ layer_some c.from.result c.args.word.now c.in-Some.layer (omega (arith, c.ranges.last, c.from.ensures)) c.in-Some.ensures c.if-layer-eq0.false)
