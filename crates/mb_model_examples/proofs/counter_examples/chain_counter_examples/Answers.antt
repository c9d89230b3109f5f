use Rattle.mb_model_examples.proofs.ChainCounterProofs as examples
use Rattle.mb_model_examples.proofs.counter_examples.chain_counter_examples.Goals as goal

pub returns : goal.returns
returns c = record {
  chains = examples.chains;
  verdicts = examples.verdicts;
  statements = examples.statements;
  audits = examples.audits;
  forged = examples.forgeries;
}
