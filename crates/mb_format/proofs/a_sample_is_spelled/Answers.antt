use Rattle.mb_format.proofs.Examples as examples
use Rattle.mb_format.proofs.a_sample_is_spelled.Goals as goal

pub returns-clause-at_the_beginning : goal.returns-clause-at_the_beginning
returns-clause-at_the_beginning c = examples.short_spelled

pub returns-clause-after_two_bytes : goal.returns-clause-after_two_bytes
returns-clause-after_two_bytes c = examples.spelled_after_two
