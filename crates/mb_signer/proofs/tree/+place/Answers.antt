use Rattle.std.proofs.Common.{◌-◌, slice_set, arith, ◌∙◌}
use Rattle.mb_signer.proofs.Filling.{set_same, set_here, placed_alone, placed_joined, counted_alone, counted_joined}
use Rattle.mb_signer.proofs.tree.+place.Goals as goal
use Rattle.mb_signer.proofs.tree.+place.Goals.{else-number-gt1-via-then-number-gt1+else-number-eq1, else-number-gt1-via-else-number-gt1}

pub returns-then-number-eq1-clause-filled : goal.returns-then-number-eq1-clause-filled
returns-then-number-eq1-clause-filled g t c = λ n low high is filled.
    placed_joined c.args.seed.now c.args.nodes.now (slice_set c.args.nodes.now (c.args.number - 1) c.args.node.now)
    c.place.new.nodes n c.args.number c.args.node.now c.inner_node-parent.result low high c.if-number-gt1.true c.requires.last
    c.if-number-eq1.true (set_same c.args.nodes.now c.args.number c.args.node.now) is
    (set_here c.args.nodes.now c.args.number c.args.node.now c.requires.first (omega arith)) c.inner_node-parent.ensures.value
    c.place.ensures.filled c.place.ensures.kept filled

pub returns-then-number-eq1-clause-counted : goal.returns-then-number-eq1-clause-counted
returns-then-number-eq1-clause-counted g t c = λ n low high.
    counted_joined n c.args.number c.args.hashes.now c.place.new.hashes low high c.if-number-gt1.true c.if-number-eq1.true
    (λ m lower higher. omega (arith, c.place.ensures.counted m lower higher, c.inner_node-parent.ensures.counted))

pub returns-else-number-gt1-clause-filled : goal.returns-else-number-gt1-clause-filled
returns-else-number-gt1-clause-filled g t c = λ n low high is filled.
    placed_alone c.args.seed.now c.args.nodes.now (slice_set c.args.nodes.now (c.args.number - 1) c.args.node.now)
    n c.args.number low high
    (λ many. elim c.else-number-gt1.branch [ else-number-gt1-via-then-number-gt1+else-number-eq1 w ↦ omega arith | else-number-gt1-via-else-number-gt1 w ↦ omega arith ])
    (set_same c.args.nodes.now c.args.number c.args.node.now)
    (set_here c.args.nodes.now c.args.number c.args.node.now c.requires.first (omega arith) ∙ is) filled

pub returns-else-number-gt1-clause-counted : goal.returns-else-number-gt1-clause-counted
returns-else-number-gt1-clause-counted g t c = λ n low high.
    counted_alone n c.args.number c.args.hashes.now low high
    (λ many. elim c.else-number-gt1.branch [ else-number-gt1-via-then-number-gt1+else-number-eq1 w ↦ omega arith | else-number-gt1-via-else-number-gt1 w ↦ omega arith ])
