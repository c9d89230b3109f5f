use Rattle.mb_signer.proofs.Nodes.{leaf_hashed}
use Rattle.mb_signer.proofs.tree.leaf_node.Goals as goal

pub returns-clause-value : goal.returns-clause-value
returns-clause-value g c =
    leaf_hashed c.args.seed.now c.args.q c.marked.result c.one_time_public-key.result c.hash.result c.marked.ensures
    c.one_time_public-key.ensures.value c.hash.ensures.value
