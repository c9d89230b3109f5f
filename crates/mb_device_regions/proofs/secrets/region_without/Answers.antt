use Rattle.mb_device_regions.proofs.Outcomes.{drop_record, dropped_as}
use Rattle.mb_device_regions.proofs.secrets.region_without.Goals as goal

pub returns-then-drop_in-clause-stored : goal.returns-then-drop_in-clause-stored
returns-then-drop_in-clause-stored g c =
    drop_record c.args.name.now c.in_ok-region.region c.drop_in.new.region c.in_ok-region.ensures.kept (dropped_as c.in_ok-region.region c.drop_in.new.region c.as_slice.result.now c.args.name.now c.as_slice.ensures c.if-drop_in.ensures)
