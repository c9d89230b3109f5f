use Rattle.std.proofs.Common.{◌≡◌, ◌+◌}
use Rattle.mb_model.specs.signatures.Winternitz.{value_after_count}
use Rattle.mb_model.specs.signatures.Signing.{private_value}
use Rattle.mb_signer.proofs.one_time.chain_value.Given as goal

abbrev pub invariant-loop-step : goal.invariant-loop-step
invariant-loop-step g l = record {
  value : l.link ≡ value_after_count l.seed.identifier l.q l.chain 0 l.step (private_value l.seed l.q l.chain);
  counted : l.hashes ≡ l.fn.hashes + 1 + l.step;
}
