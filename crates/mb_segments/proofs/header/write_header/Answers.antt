use Rattle.mb_segments.proofs.Sizes.{header_fits}
use Rattle.mb_segments.proofs.header.write_header.Goals as goal

pub put_header-requires : goal.put_header-requires
put_header-requires c = header_fits c.args.header.now c.requires
