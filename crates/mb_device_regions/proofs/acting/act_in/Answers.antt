use Rattle.std.proofs.Common.{arith}
use Rattle.mb_appvm.specs.Asking.{action_of}
use Rattle.mb_device_regions.specs.Demands.{shown_secrets}
use Rattle.mb_device_regions.proofs.Asked.{demands_allowed, answer_short, secrets_fit, unmet}
use Rattle.mb_device_regions.proofs.acting.act_in.Goals as goal

pub meet_all-requires-clause-demands : goal.meet_all-requires-clause-demands
meet_all-requires-clause-demands c = demands_allowed c.args.output.now (action_of c.in-Some.action) c.in-Some.ensures

pub returns-then-not-meet_all : goal.returns-then-not-meet_all
returns-then-not-meet_all c =
    unmet c.args.number c.args.output.now (action_of c.in-Some.action) c.args.secrets.now (shown_secrets c.list-listed.result.items) c.in-Some.ensures c.list-listed.ensures c.if-not-meet_all.ensures

pub fill-requires : goal.fill-requires
fill-requires c = secrets_fit (shown_secrets c.meet_all.new.listed.items) c.if-not-meet_all.ensures.1

pub written-requires : goal.written-requires
written-requires c = omega (arith, answer_short c.args.output.now (action_of c.in-Some.action) c.in-Some.ensures, c.requires.room)
