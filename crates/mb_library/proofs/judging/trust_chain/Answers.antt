use Rattle.mb_library.specs.Judging.{trust_judged}
use Rattle.mb_library.proofs.Ends.{trust_ends}
use Rattle.mb_library.proofs.judging.trust_chain.Goals as goal

pub returns-in-Ok : goal.returns-in-Ok
returns-in-Ok c = trust_judged c.in-Ok.report c.in-Ok.ensures.accepted c.judge.ensures

pub returns-in-Err : goal.returns-in-Err
returns-in-Err c = rw (c.code_of.ensures, c.of_end.ensures) (trust_ends _ _ _ _ c.in-Err.why c.in-Err.ensures.refused)
