use Rattle.mb_model_examples.proofs.HeaderProofs as examples
use Rattle.mb_model_examples.proofs.records.headers_are_spelled.Goals as goal

pub returns-clause-headers : goal.returns-clause-headers
returns-clause-headers c = examples.headers

pub returns-clause-log : goal.returns-clause-log
returns-clause-log c = examples.logs
