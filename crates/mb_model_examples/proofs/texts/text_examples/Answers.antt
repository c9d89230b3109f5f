use Rattle.mb_model_examples.proofs.TextExampleProofs as examples
use Rattle.mb_model_examples.proofs.texts.text_examples.Goals as goal

pub returns : goal.returns
returns c = record {
  lines = examples.lines;
  scripts = examples.scripts;
  draws = examples.draws;
  replies = examples.replies;
  drafts = examples.drafts;
  orders = examples.order_lines;
  listings = examples.listings;
}
