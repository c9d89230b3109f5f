-- What an order leaves to be done to a region. Is a region after an order what the rules say, whatever its fate?
use Rattle.std.specs.Prelude.{ℕ, ◌==◌, nat_lt, if◌then◌else◌}
use Rattle.mb_model.specs.declared.layer.Layers.{Layers}
use Rattle.mb_model.specs.declared.layer.Pair.{Pair}
use Rattle.mb_model.specs.declared.order.ChangeKind.{ChangeKind}
use Rattle.mb_model.specs.declared.region.RegionKey.{RegionKey}
use Rattle.mb_model.specs.declared.stored.Fate.{Fate}
use Rattle.mb_model.specs.declared.stored.Fate.TheVariants.{Keep, Empty, DropConfiguration, AddKey}
use Rattle.mb_model.specs.owners.Rules.{admits}

-- what a change of layer `changed` does to the region of a layer
abbrev pub change_fate : Layers → ChangeKind → ℕ → Pair → ℕ → Fate
change_fate layers kind changed cosigned layer =
    if nat_lt layer changed then Keep
    else if admits layers kind changed cosigned layer then DropConfiguration
    else Empty

-- what is done to the region of a layer if a key is made in the region of `key_layer`
abbrev pub key_fate : ℕ → RegionKey → ℕ → Fate
key_fate key_layer key layer = if layer == key_layer then AddKey key else Keep
