use Rattle.std.proofs.Common.{rules, ◌≡◌, ◌+◌, ◌*◌, ◌∙◌, take, length, arith}
use Rattle.mb_model.specs.signatures.Signing.{path_from}
use Rattle.mb_signer.proofs.Paths.{path_none, path_next}
use Rattle.mb_bytes.proofs.InPlace.{begun, grown, whole}
use Rattle.mb_signer.proofs.signing.put_path.Goals as goal

pub loop-level-init : goal.loop-level-init
loop-level-init c = record {
  path = λ key is. begun (take 2188 c.args.out.now) _ (path_none key (32 + c.args.q));
  sized = search rules;
}

pub loop-level-preserved : goal.loop-level-preserved
loop-level-preserved c =
    let long : length c.node-node.result ≡ 32 = search rules in
    record {
      path = λ key is.
          grown c.loop-level.out c.put_at.new.out (take 2188 c.args.out.now) (path_from key (32 + c.args.q) c.loop-level.level)
          (path_from key (32 + c.args.q) (c.loop-level.level + 1)) c.node-node.result (2188 + 32 * c.loop-level.level)
          (2188 + 32 * c.loop-level.level) (2188 + 32 * (c.loop-level.level + 1)) c.put_at.ensures.written (omega arith)
          (omega arith) (c.loop-level.invariant.path key is)
          (path_next key (32 + c.args.q) c.loop-level.level c.sibling.result c.node-node.result c.sibling.ensures.value
          (c.node-node.ensures ∙ is.each c.sibling.result c.sibling.ensures.first c.sibling.ensures.last));
      sized = search rules;
    }

pub returns : goal.returns
returns c = λ key is. let e : c.loop-level.level ≡ 5 = omega arith in
    whole c.loop-level.out _ 2348 (omega arith) (rw e at (c.loop-level.invariant.path key is))
