use Rattle.std.proofs.Common.{sym, ◌∙◌}
use Rattle.std.proofs.lemmas.List.Elements.{filter_more}
use Rattle.mb_model.specs.declared.region.RegionKey.{RegionKey}
use Rattle.mb_model.specs.owners.Regions.{is_epoch}
use Rattle.mb_layout_edits.proofs.Rows.{filter_below}
use Rattle.mb_layout_edits.proofs.row.epoch_keys.Goals as goal

pub put_epoch-requires : goal.put_epoch-requires
put_epoch-requires c = rw c.loop-key.invariant (filter_below (λ (key : RegionKey). is_epoch key.kind) c.args.keys.now c.loop-key.key-index c.loop-key-test.true c.requires)

pub loop-key-preserved : goal.loop-key-preserved
loop-key-preserved c =
    let put = rw c.loop-key.invariant at c.put_epoch.ensures in
    put ∙ sym (filter_more (λ (key : RegionKey). is_epoch key.kind) c.args.keys.now c.loop-key.key-index _ c.loop-key-test.true)
