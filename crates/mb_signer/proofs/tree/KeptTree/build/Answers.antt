use Rattle.std.proofs.Common.{rules, ◌≡◌, ◌+◌, ap, arith}
use Rattle.mb_signer.specs.Tree.{joined_above}
use Rattle.mb_signer.proofs.Filling.{filled_none, filled_at, filled_to, joined_none, joined_to}
use Rattle.mb_signer.proofs.tree.KeptTree.build.Goals as goal

pub loop-q-init : goal.loop-q-init
loop-q-init g c = record {
  filled = filled_none c.args.seed.now c.no_nodes-nodes.result;
  sized = search rules;
  counted = omega (arith, joined_none);
}

pub loop-q-preserved : goal.loop-q-preserved
loop-q-preserved g c =
    let same : 32 + c.loop-q.q + 1 ≡ 32 + (c.loop-q.q + 1) = omega arith in
    let next : joined_above 5 (32 + c.loop-q.q + 1) ≡ joined_above 5 (32 + (c.loop-q.q + 1)) = ap (joined_above 5) same in
    record {
      filled =
          filled_at c.args.seed.now c.place.new.nodes 5 (32 + c.loop-q.q + 1) (32 + (c.loop-q.q + 1)) same
          (c.place.ensures.filled 5 (omega arith) (omega arith) c.leaf_node-leaf.ensures.value c.loop-q.invariant.filled);
      sized = search rules;
      counted = omega (arith, c.loop-q.invariant.counted, c.leaf_node-leaf.ensures.counted, c.place.ensures.counted 5 (omega arith) (omega arith));
    }

pub invariant_of-result : goal.invariant_of-result
invariant_of-result g c = record {
  key = c.args.seed.now;
  tree = filled_to c.args.seed.now c.loop-q.nodes (32 + c.loop-q.q) (omega arith) c.loop-q.invariant.filled;
}

pub returns-clause-tree : goal.returns-clause-tree
returns-clause-tree g c = filled_to c.args.seed.now c.loop-q.nodes (32 + c.loop-q.q) (omega arith) c.loop-q.invariant.filled

pub returns-clause-counted : goal.returns-clause-counted
returns-clause-counted g c = omega (arith, joined_to (32 + c.loop-q.q) (omega arith))
