use Rattle.std.proofs.Common.{refl}
use Rattle.mb_library.specs.Stated.{said_accepted}
use Rattle.mb_library.proofs.Saying.{accepted_short, said_ends}
use Rattle.mb_library.proofs.statements.say_chain.Goals as goal

pub of-requires : goal.of-requires
of-requires c = accepted_short _ _ _ c.in-Ok.report c.in-Ok.ensures.accepted

pub returns-in-Ok : goal.returns-in-Ok
returns-in-Ok c = said_accepted c.in-Ok.report c.in-Ok.ensures.accepted refl c.none-2.ensures c.of.ensures

pub returns-in-Err : goal.returns-in-Err
returns-in-Err c = rw (c.none.ensures, c.code_of.ensures, c.of_end.ensures) (said_ends _ _ _ _ c.in-Err.ensures.refused)
