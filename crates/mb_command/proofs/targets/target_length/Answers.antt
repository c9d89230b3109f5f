use Rattle.mb_command.proofs.Lengths.{length-serial, length-length, length-named}
use Rattle.mb_command.proofs.targets.target_length.Goals as goal

pub returns-in-Serial-clause-length : goal.returns-in-Serial-clause-length
returns-in-Serial-clause-length c = rw c.in-Serial.is (length-serial _ (rw c.in-Serial.is at c.requires))

pub returns-in-Length-clause-length : goal.returns-in-Length-clause-length
returns-in-Length-clause-length c = rw c.in-Length.is (length-length _)

pub returns-in-Owner-clause-length : goal.returns-in-Owner-clause-length
returns-in-Owner-clause-length c = length-named c.args.target.now c.in-Owner.is c.requires

pub returns-in-Owner-2-clause-length : goal.returns-in-Owner-2-clause-length
returns-in-Owner-2-clause-length c = length-named c.args.target.now c.in-Owner.is c.requires
