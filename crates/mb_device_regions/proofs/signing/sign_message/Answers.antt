use Rattle.std.proofs.Common.{ℕ, refl, sym, subst}
use Rattle.mb_model.specs.owners.Regions.{region_of}
use Rattle.mb_model.specs.records.ChainFormat.{said_format}
use Rattle.mb_outbound.specs.KeptTrees.{IfKeptFor}
use Rattle.mb_outbound.proofs.Seeds.{kept_is_bound}
use Rattle.mb_signer.specs.Tree.{IsTreeOf}
use Rattle.mb_device_regions.specs.Statements.{IsKeptOfSeed}
use Rattle.mb_device_regions.proofs.Calling.{signed_writes}
use Rattle.mb_device_regions.proofs.Promised.{remembered_ready, on_bbram, cut_on_bbram, signed_knows, codes_stay}
use Rattle.mb_device_regions.proofs.Readied.{region_held}
use Rattle.mb_device_regions.proofs.Signed.{held_ordered, no_key_told, spent_told, signed_told, signed_cut}
use Rattle.mb_device_regions.proofs.Stated.{message_allowed}
use Rattle.mb_device_regions.proofs.signing.sign_message.Goals as goal

pub bind-requires-clause-held : goal.bind-requires-clause-held
bind-requires-clause-held g c = held_ordered g.L.Compartment.place _ g.met.L.Named.named (remembered_ready c.requires.can_answer)

pub sign_bound-reply-requires-clause-said : goal.sign_bound-reply-requires-clause-said
sign_bound-reply-requires-clause-said g c = subst said_format.Allowed (sym c.in-Ok.ensures) (message_allowed c.args.message.now c.requires.message)

pub sign_bound-reply-requires-clause-own : goal.sign_bound-reply-requires-clause-own
sign_bound-reply-requires-clause-own g c =
    let has = c.requires.can_answer.remembered in
    let bound = c.in-Ok-bind.ensures.bound (region_of has.state g.L.Compartment.place) (region_held g.L.Compartment.place (g.B.Board.seen c.args.b.now).memory has.state g.met.L.Named.named has.ready) in
    subst (λ (place : ℕ). IfKeptFor c.args.running.now.known.trees.value.region place c.args.key (λ own. IsTreeOf c.in-Ok-bind.seed own.tree)) (sym c.number.ensures)
    (kept_is_bound c.args.running.now.known.trees.value.region g.L.Compartment.place c.args.key c.in-Ok-bind.right c.in-Ok-bind.seed has.state bound has.knows.trees.region)

pub returns-in-Ok-bind-clause-answers : goal.returns-in-Ok-bind-clause-answers
returns-in-Ok-bind-clause-answers g c = record {
  told = λ state ready runs knows. (
      let held = region_held g.L.Compartment.place _ state g.met.L.Named.named ready in
      signed_told g.L.Compartment.place c.args.key c.in-Ok-bind.right c.in-Ok-bind.seed c.args.running.now.known c.in-Ok.prepared.0 c.args.message.now c.sign_bound-reply.result state _ _ g.met.L.Named.named
      (c.in-Ok-bind.ensures.bound (region_of state g.L.Compartment.place) held)
      (record {
        bytes = c.requires.can_answer.bytes;
        loaded = c.requires.can_answer.up.loaded;
        sized = c.in-Ok-bind.ensures.ran.ran.sized;
        stores = c.in-Ok-bind.ensures.done;
        blank = c.in-Ok-bind.ensures.blank;
        rest = c.in-Ok-bind.ensures.ran.rest;
      })
      knows c.in-Ok.ensures c.sign_bound-reply.ensures.reply runs ready);
  writes = λ uncut. absurd (signed_writes c.sign_bound-reply.result _ _ _ c.sign_bound-reply.ensures.reply uncut);
  known = λ state ready knows.
      signed_knows c.args.running.now.known c.sign_bound-reply.new.known g.L.Compartment.place c.args.key c.in-Ok-bind.right c.in-Ok-bind.seed state c.sign_bound-reply.ensures.known
      (subst (λ (place : ℕ). IsKeptOfSeed c.sign_bound-reply.new.known.trees.value.region place c.args.key c.in-Ok-bind.seed) c.number.ensures c.sign_bound-reply.ensures.kept)
      (c.in-Ok-bind.ensures.bound (region_of state g.L.Compartment.place) (region_held g.L.Compartment.place (g.B.Board.seen c.args.b.now).memory state g.met.L.Named.named ready)) knows;
  codes = λ state codes. codes_stay _ _ _ _ state c.sign_bound-reply.ensures.known.two c.sign_bound-reply.ensures.known.three c.in-Ok-bind.ensures.ran.flash codes;
  ran = on_bbram 3 g.L.Compartment.place _ _ _ _ c.in-Ok-bind.ensures.ran;
  plans = c.bind.ensures.plans;
}

pub returns-in-Err-NoKey-clause-answers : goal.returns-in-Err-NoKey-clause-answers
returns-in-Err-NoKey-clause-answers g c =
    let unwritten = rw c.in-Err-NoKey.field-0-is at c.in-Err-NoKey.ensures.unwritten in
    let ran = rw c.in-Err-NoKey.field-0-is at c.in-Err-NoKey.ensures.ran in
    record {
      told = λ state ready runs knows. (
          let held = region_held g.L.Compartment.place _ state g.met.L.Named.named ready in
          no_key_told g.L.Compartment.place c.args.key c.args.message.now state c.reply.result _ _ c.reply.ensures
          (rw c.in-Err-NoKey.field-0-is at (c.in-Err-NoKey.ensures.bound (region_of state g.L.Compartment.place) held)) unwritten.0 ready);
      writes = λ uncut. unwritten;
      known = λ state ready knows. knows;
      codes = λ state codes. codes_stay _ _ _ _ state refl refl ran.flash codes;
      ran = on_bbram 3 g.L.Compartment.place _ _ _ _ ran;
      plans = c.bind.ensures.plans;
    }

pub returns-in-Err-Spent-clause-answers : goal.returns-in-Err-Spent-clause-answers
returns-in-Err-Spent-clause-answers g c =
    let unwritten = rw c.in-Err-Spent.field-0-is at c.in-Err-Spent.ensures.unwritten in
    let ran = rw c.in-Err-Spent.field-0-is at c.in-Err-Spent.ensures.ran in
    record {
      told = λ state ready runs knows. (
          let held = region_held g.L.Compartment.place _ state g.met.L.Named.named ready in
          spent_told g.L.Compartment.place c.args.key c.args.message.now state c.reply-in-Err-Spent.result _ _ c.reply-in-Err-Spent.ensures
          (rw c.in-Err-Spent.field-0-is at (c.in-Err-Spent.ensures.bound (region_of state g.L.Compartment.place) held)) unwritten.0 ready);
      writes = λ uncut. unwritten;
      known = λ state ready knows. knows;
      codes = λ state codes. codes_stay _ _ _ _ state refl refl ran.flash codes;
      ran = on_bbram 3 g.L.Compartment.place _ _ _ _ ran;
      plans = c.bind.ensures.plans;
    }

pub returns-clause-answers : goal.returns-clause-answers
returns-clause-answers g c =
    let ran = rw c.in-Err-Stopped.field-0-is at c.in-Err-Stopped.ensures.ran in
    record {
      told = λ state ready runs knows. (
          let held = region_held g.L.Compartment.place _ state g.met.L.Named.named ready in
          let has = rw c.in-Err-Stopped.field-0-is at (c.in-Err-Stopped.ensures.bound (region_of state g.L.Compartment.place) held) in
          signed_cut g.L.Compartment.place c.args.key c.args.message.now state _ _ has.0 g.met.L.Named.named has.1 c.requires.can_answer.bytes c.in-Err-Stopped.ensures.ran.ran.sized c.in-Err-Stopped.ensures.either ready);
      writes = tt;
      known = λ state ready knows. knows;
      codes = λ state codes. codes_stay _ _ _ _ state refl refl ran.flash codes;
      ran = cut_on_bbram 3 g.L.Compartment.place _ _ _ _ ran;
      plans = c.bind.ensures.plans;
    }
