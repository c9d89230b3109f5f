use Rattle.std.proofs.Common.{◌∙◌, ap, length, arith}
use Rattle.mb_model.proofs.RegionWriting.{written_short}
use Rattle.mb_image.proofs.written.put_region.Goals as goal

pub put_area-requires : goal.put_area-requires
put_area-requires c = omega (arith, ap length (c.deref.ensures.value ∙ c.spell_region.ensures), written_short c.args.region.now c.requires)
