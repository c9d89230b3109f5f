use Rattle.std.proofs.Common.{rules, ◌≡◌, ◌+◌, ◌*◌, take, length, arith}
use Rattle.mb_model.specs.signatures.Signing.{signed_values}
use Rattle.mb_signer.proofs.Chains.{signed_none, signed_next}
use Rattle.mb_bytes.proofs.InPlace.{begun, grown}
use Rattle.mb_signer.proofs.signing.put_values.Goals as goal

pub loop-chain-init : goal.loop-chain-init
loop-chain-init g c = record {
  values = begun (take 40 c.args.out.now) _ (signed_none c.args.seed.now c.args.q c.args.digits.now);
  sized = search rules;
  cost = omega arith;
}

pub loop-chain-preserved : goal.loop-chain-preserved
loop-chain-preserved g c =
    let long : length c.chain_value-value.result ≡ 32 = search rules in
    record {
      values =
          grown c.loop-chain.out c.put_at.new.out (take 40 c.args.out.now) (signed_values c.args.seed.now c.args.q c.args.digits.now c.loop-chain.chain)
          (signed_values c.args.seed.now c.args.q c.args.digits.now (c.loop-chain.chain + 1)) c.chain_value-value.result (40 + 32 * c.from.result)
          (40 + 32 * c.loop-chain.chain) (40 + 32 * (c.loop-chain.chain + 1)) c.put_at.ensures.written (omega (arith, c.from.ensures))
          (omega (arith, c.from.ensures)) c.loop-chain.invariant.values
          (signed_next c.args.seed.now c.args.q c.args.digits.now c.loop-chain.chain c.coef.result c.chain_value-value.result c.coef.ensures.value
          c.chain_value-value.ensures.value);
      sized = search rules;
      cost = omega (arith, c.coef.ensures.bound, c.chain_value-value.ensures.counted);
    }

pub returns-clause-values : goal.returns-clause-values
returns-clause-values g c = let e : c.loop-chain.chain ≡ 67 = omega arith in rw e at c.loop-chain.invariant.values
