use Rattle.std.proofs.Common.{◌∙◌, ap, length, arith}
use Rattle.mb_model.specs.records.RootFormat.{root_format}
use Rattle.mb_model.proofs.FormatBounds.{root_short}
use Rattle.mb_image.proofs.written.put_root.Goals as goal

pub put_area-requires : goal.put_area-requires
put_area-requires c =
    omega (arith, ap length (c.deref.ensures.value ∙ c.spell_root.ensures ∙ ap root_format.spelling c.root_of.ensures), root_short.short _ c.requires)
