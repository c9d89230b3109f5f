use Rattle.std.proofs.Common.{refl}
use Rattle.std.proofs.lemmas.Result.{err_from_is_err_and}
use Rattle.mb_model.specs.declared.reply.Reply.TheVariants as reply
use Rattle.mb_model.specs.machine.LayerEvents.{drop_event}
use Rattle.mb_device_regions.proofs.Outcomes.{drop_absent, drop_told, drop_cut}
use Rattle.mb_device_regions.proofs.Promised.{remembered_ready, told_on_bbram, stopped_on_bbram, plans_then, codes_stay, answers_idle}
use Rattle.mb_device_regions.proofs.secrets.drop_secret.Goals as goal

pub region_without-requires-clause-ready : goal.region_without-requires-clause-ready
region_without-requires-clause-ready g c = remembered_ready c.requires.can_answer

pub returns-in-Ok-None-clause-answers : goal.returns-in-Ok-None-clause-answers
returns-in-Ok-None-clause-answers g c =
    answers_idle g.L.Compartment.place _ (drop_event g.L.Compartment.place c.args.name.now) c.args.running.now _ c.args.s reply.Absent (g.B.Board.seen c.args.b.now) c.requires.can_answer.up refl c.region_without.ensures.plans
    (λ state ready. drop_absent g.L.Compartment.place c.args.name.now state _ (rw c.in-Ok-None.field-0-is at (c.in-Ok-None.ensures.dropped state ready)) ready)

pub returns-in_err-s-clause-answers : goal.returns-in_err-s-clause-answers
returns-in_err-s-clause-answers g c =
    let p = err_from_is_err_and c.from_residual.result c.from_residual.ensures.1 in
    rw p.1 (record {
      told = λ state ready runs knows.
          drop_cut g.L.Compartment.place c.args.name.now state c.in-Ok-Some.region _ (rw c.in-Ok-Some.field-0-is at (c.in-Ok-Some.ensures.dropped state ready)) (c.replace.ensures.either state ready);
      writes = tt;
      known = λ state ready knows. knows;
      codes = λ state codes. codes_stay _ _ _ _ state refl refl c.in_err-s.ensures.ran.flash codes;
      ran = stopped_on_bbram 3 _ _ _ _ c.in_err-s.ensures.ran;
      plans = plans_then c.region_without.ensures.plans c.replace.ensures.plans;
    })

pub returns-clause-answers : goal.returns-clause-answers
returns-clause-answers g c = record {
  told = λ state ready runs knows.
      drop_told g.L.Compartment.place c.args.name.now state c.in-Ok-Some.region _ _ (rw c.in-Ok-Some.field-0-is at (c.in-Ok-Some.ensures.dropped state ready)) runs ready (c.in_ok-s.ensures.done state ready);
  writes = λ uncut. absurd (cc);
  known = λ state ready knows. knows;
  codes = λ state codes. codes_stay _ _ _ _ state refl refl c.in_ok-s.ensures.ran.flash codes;
  ran = told_on_bbram 3 _ _ _ _ c.in_ok-s.ensures.ran;
  plans = plans_then c.region_without.ensures.plans c.replace.ensures.plans;
}
