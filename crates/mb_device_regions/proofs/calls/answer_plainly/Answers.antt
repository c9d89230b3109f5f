use Rattle.std.proofs.Common.{refl}
use Rattle.std.proofs.lemmas.Result.{err_from_is_err_and}
use Rattle.mb_model_memory.proofs.StorableRecords.{region_written}
use Rattle.mb_device_regions.proofs.Finished.{plain_cut}
use Rattle.mb_device_regions.proofs.Promised.{codes_stay, stopped_on_bbram}
use Rattle.mb_device_regions.proofs.calls.answer_plainly.Goals as goal

pub replace-requires-clause-stored : goal.replace-requires-clause-stored
replace-requires-clause-stored g c = region_written c.args.acted.region c.requires.fits.kept.storable

pub returns-in_err-s-clause-finishes : goal.returns-in_err-s-clause-finishes
returns-in_err-s-clause-finishes g c =
    let p = err_from_is_err_and c.from_residual.result c.from_residual.ensures.1 in
    rw p.1 (record {
      told = λ state signer ready runs knows acted found.
          plain_cut g.L.Compartment.place c.args.input.now c.args.acted.answer state c.args.acted.region signer _ found (c.replace.ensures.either state ready);
      even = λ state ready. tt;
      writes = tt;
      known = λ state ready knows keys. knows;
      codes = λ state codes. codes_stay _ _ _ _ state refl refl c.in_err-s.ensures.ran.flash codes;
      ran = stopped_on_bbram 3 _ _ _ _ c.in_err-s.ensures.ran;
      plans = c.replace.ensures.plans;
    })
