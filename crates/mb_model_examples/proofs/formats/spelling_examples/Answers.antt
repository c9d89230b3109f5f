use Rattle.mb_model_examples.proofs.FormatExampleProofs as examples
use Rattle.mb_model_examples.proofs.formats.spelling_examples.Goals as goal

pub returns : goal.returns
returns c = examples.spellings
