use Rattle.mb_model_examples.proofs.RecordProofs as examples
use Rattle.mb_model_examples.proofs.records.records_are_spelled.Goals as goal

pub returns : goal.returns
returns c = record {
  keys = examples.keys;
  layers = examples.layers;
  entries = examples.entries;
  roots = examples.roots;
  regions = examples.regions;
  statements = examples.statements;
  chains = examples.chains;
  public = examples.publics;
  bodies = examples.bodies;
}
