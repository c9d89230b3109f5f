use Rattle.mb_log.proofs.Fronts.{figures_go_on, life_goes_on}
use Rattle.mb_verifier.proofs.signer.life_of.Goals as goal

pub loop-signed-preserved : goal.loop-signed-preserved
loop-signed-preserved c = record {
  figures = figures_go_on c.args.log.now c.loop-signed.signed-index _ c.loop-signed.figures c.add_entry.new.figures c.loop-signed-test.true c.requires.short c.loop-signed.invariant.figures c.add_entry.ensures;
  life = life_goes_on c.args.log.now c.loop-signed.signed-index _ c.args.key c.loop-signed.figures c.loop-signed.life c.add.new.self c.loop-signed-test.true c.loop-signed.invariant.figures c.loop-signed.invariant.life c.in_ok-add.ensures.ok;
}
