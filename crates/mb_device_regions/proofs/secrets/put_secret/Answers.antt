use Rattle.std.proofs.Common.{Ok, Err, ap, refl, subst}
use Rattle.std.proofs.lemmas.Result.{err_from_is_err_and}
use Rattle.mb_model.specs.declared.region.Secret.{Secret}
use Rattle.mb_model.specs.machine.LayerEvents.{put_event}
use Rattle.mb_model.specs.owners.Regions.{region_of}
use Rattle.mb_device_regions.specs.declared.end.NotPut.TheVariants.{Full}
use Rattle.mb_device_regions.specs.Secrets.{PutsInto}
use Rattle.mb_device_regions.proofs.Outcomes.{put_refused, put_told, put_cut}
use Rattle.mb_device_regions.proofs.Promised.{remembered_ready, told_on_bbram, stopped_on_bbram, plans_then, codes_stay, answers_idle}
use Rattle.mb_device_regions.proofs.secrets.put_secret.Goals as goal

pub region_with-requires-clause-ready : goal.region_with-requires-clause-ready
region_with-requires-clause-ready g c = remembered_ready c.requires.can_answer

pub returns-in-Err-Full-clause-answers : goal.returns-in-Err-Full-clause-answers
returns-in-Err-Full-clause-answers g c =
    answers_idle g.L.Compartment.place _ (put_event g.L.Compartment.place c.args.name.now c.args.value.now) c.args.running.now _ c.args.s c.reply.result (g.B.Board.seen c.args.b.now) c.requires.can_answer.up refl c.region_with.ensures.plans
    (λ state ready.
    put_refused g.L.Compartment.place c.args.name.now c.args.value.now state c.reply.result _ c.reply.ensures
    (subst (λ (secret : Secret). PutsInto (region_of state g.L.Compartment.place) secret (Err Full)) c.in-Ok.ensures.is (rw c.in-Err-Full.field-0-is at (c.in-Err-Full.ensures.put state ready))) ready)

pub returns-in_err-s-clause-answers : goal.returns-in_err-s-clause-answers
returns-in_err-s-clause-answers g c =
    let p = err_from_is_err_and c.from_residual.result c.from_residual.ensures.1 in
    rw p.1 (record {
      told = λ state ready runs knows.
          put_cut g.L.Compartment.place c.args.name.now c.args.value.now c.args.running.now.known.figures.number state c.in-Ok-region_with.region _
          (subst (λ (secret : Secret). PutsInto (region_of state g.L.Compartment.place) secret (Ok c.in-Ok-region_with.region)) c.in-Ok.ensures.is (c.in-Ok-region_with.ensures.put state ready))
          (ap (λ f. f.number) knows.figures) (c.replace.ensures.either state ready);
      writes = tt;
      known = λ state ready knows. knows;
      codes = λ state codes. codes_stay _ _ _ _ state refl refl c.in_err-s.ensures.ran.flash codes;
      ran = stopped_on_bbram 3 _ _ _ _ c.in_err-s.ensures.ran;
      plans = plans_then c.region_with.ensures.plans c.replace.ensures.plans;
    })

pub returns-clause-answers : goal.returns-clause-answers
returns-clause-answers g c = record {
  told = λ state ready runs knows.
      put_told g.L.Compartment.place c.args.name.now c.args.value.now c.args.running.now.known.figures.number state c.in-Ok-region_with.region _ _
      (subst (λ (secret : Secret). PutsInto (region_of state g.L.Compartment.place) secret (Ok c.in-Ok-region_with.region)) c.in-Ok.ensures.is (c.in-Ok-region_with.ensures.put state ready))
      (ap (λ f. f.number) knows.figures) runs ready (c.in_ok-s.ensures.done state ready);
  writes = λ uncut. absurd (cc);
  known = λ state ready knows. knows;
  codes = λ state codes. codes_stay _ _ _ _ state refl refl c.in_ok-s.ensures.ran.flash codes;
  ran = told_on_bbram 3 _ _ _ _ c.in_ok-s.ensures.ran;
  plans = plans_then c.region_with.ensures.plans c.replace.ensures.plans;
}
