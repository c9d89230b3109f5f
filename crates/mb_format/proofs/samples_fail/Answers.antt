use Rattle.mb_format.proofs.Examples as examples
use Rattle.mb_format.proofs.samples_fail.Goals as goal

pub returns-clause-no_such_tag : goal.returns-clause-no_such_tag
returns-clause-no_such_tag c = examples.mistagged

pub returns-clause-cut_off : goal.returns-clause-cut_off
returns-clause-cut_off c = examples.cut_off

pub returns-clause-left_over : goal.returns-clause-left_over
returns-clause-left_over c = examples.left_over
