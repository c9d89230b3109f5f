use Rattle.mb_verifier.proofs.SignerLemmas.{none_at_first, none_more, all_unsigned, first_signed}
use Rattle.mb_model.specs.owners.Log.{entries_of}
use Rattle.mb_verifier.proofs.signer.first_signer.Goals as goal

pub loop-signed-init : goal.loop-signed-init
loop-signed-init c = none_at_first (entries_of c.args.log.now) c.args.statement.now

pub returns-in-Some : goal.returns-in-Some
returns-in-Some c =
    first_signed c.args.log.now c.args.statement.now c.loop-signed.signed-index _ c.in-Some.key c.loop-signed-test.true c.requires c.loop-signed.invariant c.in-Some.ensures

pub loop-signed-preserved : goal.loop-signed-preserved
loop-signed-preserved c = none_more c.args.log.now c.args.statement.now c.loop-signed.signed-index _ c.loop-signed-test.true c.loop-signed.invariant c.in_default.ensures

pub returns : goal.returns
returns c = all_unsigned c.args.log.now c.args.statement.now c.loop-signed.signed-index c.loop-signed-test.false c.loop-signed.invariant
