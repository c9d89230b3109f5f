use Rattle.std.proofs.Common.{length}
use Rattle.mb_flash.proofs.sector.+write_sectors.Given as goal

abbrev pub decreases-write_sectors : goal.decreases-write_sectors
decreases-write_sectors g l = length l.bytes.now
