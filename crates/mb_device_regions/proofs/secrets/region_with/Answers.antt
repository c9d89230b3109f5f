use Rattle.std.proofs.lemmas.Result.{err_from_is_err_and}
use Rattle.mb_model.specs.owners.Regions.{region_of}
use Rattle.mb_device_regions.proofs.Outcomes.{put_record, full_for}
use Rattle.mb_device_regions.proofs.secrets.region_with.Goals as goal

pub returns-clause-stored : goal.returns-clause-stored
returns-clause-stored g c = put_record c.args.secret c.in_ok-region.region c.put_in.new.region c.requires.allowed c.in_ok-region.ensures.kept c.in_ok-put_in.ensures

pub returns-in_err-put_in-clause-put : goal.returns-in_err-put_in-clause-put
returns-in_err-put_in-clause-put g c = λ state ready. (
    let p = err_from_is_err_and c.from_residual-in_err-put_in.result c.from_residual-in_err-put_in.ensures.1 in
    rw (p.1, p.2) (full_for c.in_err-put_in.field-0.0 c.in_ok-region.region (region_of state g.L.Compartment.place) c.put_in.new.region c.args.secret (c.in_ok-region.ensures.region state ready) c.in_err-put_in.ensures))
