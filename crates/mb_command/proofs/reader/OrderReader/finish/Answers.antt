use Rattle.mb_command.proofs.Feeding.{ended_whole}
use Rattle.mb_command.proofs.reader.OrderReader.finish.Goals as goal

pub returns-in-Ended-clause-reads : goal.returns-in-Ended-clause-reads
returns-in-Ended-clause-reads c fed kept = ended_whole fed c.in-Ended.end (rw c.in-Ended.is at kept)
