use Rattle.mb_image.proofs.Sectors.{found_readable}
use Rattle.mb_image.proofs.segments.header_in.Goals as goal

pub returns-clause-readable : goal.returns-clause-readable
returns-clause-readable c = found_readable c.sector.result.now c.header_at.result c.header_at.ensures
