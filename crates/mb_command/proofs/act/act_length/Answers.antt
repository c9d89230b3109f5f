use Rattle.mb_command.proofs.Lengths.{length-establish, length-new_key, length-loaded}
use Rattle.mb_command.proofs.act.act_length.Goals as goal

pub returns-in-Establish-clause-length : goal.returns-in-Establish-clause-length
returns-in-Establish-clause-length c = rw (c.in-Establish.is, c.given_length.ensures.length) (length-establish _ _ (rw c.in-Establish.is at c.requires))

pub returns-in-NewKey-clause-length : goal.returns-in-NewKey-clause-length
returns-in-NewKey-clause-length c = rw c.in-NewKey.is (length-new_key _)

pub returns-in-Load-clause-length : goal.returns-in-Load-clause-length
returns-in-Load-clause-length c = rw (c.as_slice.ensures, c.given_length-in-Load.ensures.length) (length-loaded c.args.act.now c.in-Load.payload c.in-Load.is)
