use Rattle.std.proofs.Common.{ℕ, List, length, refl, sym, ap, subst, ◌∙◌}
use Rattle.sha2.specs.Sha256.{sha256}
use Rattle.sha2.proofs.Facts256.{length-sha256}
use Rattle.std.proofs.lemmas.Result.{err_from_is_err_and}
use Rattle.mb_model.specs.declared.entry.Said.TheVariants.{Answer}
use Rattle.mb_model.specs.declared.reply.Reply.TheVariants as reply
use Rattle.mb_model.specs.owners.Regions.{region_of}
use Rattle.mb_model_memory.proofs.StorableRecords.{region_written}
use Rattle.mb_outbound.specs.KeptTrees.{IfKeptFor}
use Rattle.mb_outbound.proofs.Seeds.{kept_is_bound}
use Rattle.mb_signer.specs.Tree.{IsTreeOf}
use Rattle.mb_device_regions.specs.Statements.{signed_statement_bytes, subject_in, IsKeptOfSeed}
use Rattle.mb_device_regions.proofs.Calling.{signed_writes}
use Rattle.mb_device_regions.proofs.Finished.{keyed_told, keyed_cut, used_valid}
use Rattle.mb_device_regions.proofs.Promised.{bound_in, signed_knows, codes_stay, told_on_bbram, stopped_on_bbram}
use Rattle.mb_device_regions.proofs.Stated.{answer_allowed}
use Rattle.mb_device_regions.proofs.calls.answer_signed.Goals as goal

pub rebind-requires-clause-stored : goal.rebind-requires-clause-stored
rebind-requires-clause-stored g c = region_written c.args.acted.region c.requires.fits.kept.storable

pub sign_bound-reply-requires-clause-said : goal.sign_bound-reply-requires-clause-said
sign_bound-reply-requires-clause-said g c =
    answer_allowed c.digest.result c.args.acted.answer (ap length c.digest.ensures ∙ length-sha256 c.as_slice.result.now) c.requires.fits.short

pub sign_bound-reply-requires-clause-own : goal.sign_bound-reply-requires-clause-own
sign_bound-reply-requires-clause-own g c =
    let has = c.requires.can_answer.remembered in
    let L = g.L.Compartment.place in
    let bound = bound_in c.args.acted.region (region_of has.state L) c.args.key c.in_ok-s.right c.in_ok-s.seed (c.requires.signer.keys has.state has.ready) c.in_ok-s.ensures.bound in
    subst (λ (place : ℕ). IfKeptFor c.args.running.now.known.trees.value.region place c.args.key (λ own. IsTreeOf c.in_ok-s.seed own.tree)) (sym c.number.ensures)
    (kept_is_bound c.args.running.now.known.trees.value.region L c.args.key c.in_ok-s.right c.in_ok-s.seed has.state bound has.knows.trees.region)

pub returns-in_err-s-clause-finishes : goal.returns-in_err-s-clause-finishes
returns-in_err-s-clause-finishes g c =
    let p = err_from_is_err_and c.from_residual.result c.from_residual.ensures.1 in
    rw p.1 (record {
      told = λ state signer ready runs knows acted found.
          keyed_cut g.L.Compartment.place c.args.key c.args.input.now c.args.acted state signer _ g.met.L.Named.named found (c.rebind.ensures.replaces.either state ready);
      even = λ state ready. tt;
      writes = tt;
      known = λ state ready knows keys. knows;
      codes = λ state codes. codes_stay _ _ _ _ state refl refl c.in_err-s.ensures.replaces.ran.flash codes;
      ran = stopped_on_bbram 3 _ _ _ _ c.in_err-s.ensures.replaces.ran;
      plans = c.rebind.ensures.replaces.plans;
    })

pub returns-clause-finishes : goal.returns-clause-finishes
returns-clause-finishes g c = record {
  told = λ state signer ready runs knows acted found.
      keyed_told g.L.Compartment.place c.args.key c.in_ok-s.right c.in_ok-s.seed c.args.running.now.known c.args.input.now c.args.acted c.sign_bound-reply.result state signer _ _ g.met.L.Named.named
      acted.keys found c.in_ok-s.ensures.bound knows
      (c.sign_bound-reply.ensures.reply
      ∙ ap (λ (hash : List ℕ). reply.Signed c.args.key c.in_ok-s.right (signed_statement_bytes c.in_ok-s.seed c.in_ok-s.right (subject_in c.args.running.now.known c.args.key) (Answer hash c.args.acted.answer)))
      (c.digest.ensures ∙ ap sha256 c.as_slice.ensures))
      (c.in_ok-s.ensures.replaces.done state ready (used_valid g.L.Compartment.place c.args.key g.met.L.Named.named state c.args.acted.region runs acted.valid));
  even = λ state ready answers. c.in_ok-s.ensures.replaces.writes state ready;
  writes = λ uncut. absurd (signed_writes c.sign_bound-reply.result _ _ _ c.sign_bound-reply.ensures.reply uncut);
  known = λ state ready knows keys.
      signed_knows c.args.running.now.known c.sign_bound-reply.new.known g.L.Compartment.place c.args.key c.in_ok-s.right c.in_ok-s.seed state c.sign_bound-reply.ensures.known
      (subst (λ (place : ℕ). IsKeptOfSeed c.sign_bound-reply.new.known.trees.value.region place c.args.key c.in_ok-s.seed) c.number.ensures c.sign_bound-reply.ensures.kept)
      (bound_in c.args.acted.region (region_of state g.L.Compartment.place) c.args.key c.in_ok-s.right c.in_ok-s.seed keys c.in_ok-s.ensures.bound) knows;
  codes = λ state codes. codes_stay _ _ _ _ state c.sign_bound-reply.ensures.known.two c.sign_bound-reply.ensures.known.three c.in_ok-s.ensures.replaces.ran.flash codes;
  ran = told_on_bbram 3 _ _ _ _ c.in_ok-s.ensures.replaces.ran;
  plans = c.rebind.ensures.replaces.plans;
}
