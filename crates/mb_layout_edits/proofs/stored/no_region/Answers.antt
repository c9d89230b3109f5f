use Rattle.std.proofs.Common.{refl}
use Rattle.mb_format.specs.Combinators.{number_bytes, items}
use Rattle.mb_model.specs.records.RegionFormat.{secrets_format}
use Rattle.mb_layout_edits.proofs.stored.no_region.Goals as goal

pub returns : goal.returns
unfolding secrets_format number_bytes items
returns c = record { secrets = refl; least = refl; keys = c.new.ensures }
