use Rattle.mb_format.proofs.Exact.{IsClear-from_exact}
use Rattle.mb_format.proofs.Whole.{IsClearWhole-from_exact}
use Rattle.mb_format.proofs.Examples as examples
use Rattle.mb_format.proofs.the_sample_is_clear.Goals as goal

pub returns-clause-at_each_offset : goal.returns-clause-at_each_offset
returns-clause-at_each_offset c = IsClear-from_exact examples.sample_exact

pub returns-clause-as_a_whole : goal.returns-clause-as_a_whole
returns-clause-as_a_whole c = IsClearWhole-from_exact examples.sample_exact

pub returns-clause-short : goal.returns-clause-short
returns-clause-short c = examples.sample_short

pub returns-clause-local : goal.returns-clause-local
returns-clause-local c = examples.sample_local
