use Rattle.std.proofs.Common.{refl}
use Rattle.mb_model_laws.proofs.TrustLemmas as lemmas
use Rattle.mb_model_laws.proofs.trusts.each_layer_is_trusted_by_itself.Goals as goal

pub returns : goal.returns
returns c = record {
  one = λ layers kind cosigned one two other. refl;
  two = λ layers kind cosigned one two other. refl;
  equal = lemmas.equal_trusts_are_one;
}
