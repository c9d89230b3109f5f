use Rattle.std.proofs.Common.{◌≡◌, filter, take}
use Rattle.mb_model.specs.owners.Regions.{is_epoch}
use Rattle.mb_layout_edits.proofs.row.epoch_keys.Given as goal

abbrev pub invariant-loop-key : goal.invariant-loop-key
invariant-loop-key l = l.kept ≡ filter (λ key. is_epoch key.kind) (take l.key-index l.fn.keys)
