use Rattle.mb_model_examples.proofs.TextCounterProofs as examples
use Rattle.mb_model_examples.proofs.counter_examples.text_counter_examples.Goals as goal

pub returns : goal.returns
returns c = record {
  lines = examples.lines;
  scripts = examples.scripts;
  drafts = examples.drafts;
  orders = examples.order_lines;
}
