use Rattle.mb_model.specs.application.Runs.{readable_secrets}
use Rattle.mb_device_regions.specs.Runs.{ends_badly}
use Rattle.mb_device_regions.proofs.Asked.{acts_on}
use Rattle.mb_device_regions.proofs.acting.run_and_act.Goals as goal

pub returns-then-not-run-clause-acted : goal.returns-then-not-run-clause-acted
returns-then-not-run-clause-acted c = λ two three seen. ends_badly c.run.new.output.items (c.if-not-run.ensures.ended two three seen)

pub returns-clause-acted : goal.returns-clause-acted
returns-clause-acted c = λ two three seen.
    acts_on c.args.given.now.code.now c.args.given.now.input.now (readable_secrets c.args.given.now.layers.now c.args.given.now.layer two three) c.args.given.now.number c.args.own c.run.new.output.items
    c.as_slice.result.now c.act.result c.as_slice.ensures.value (c.if-not-run.ensures.ended two three seen) c.act.ensures.acted
