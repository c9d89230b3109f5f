use Rattle.mb_verifier.proofs.Listed.{lives_more}
use Rattle.mb_verifier.proofs.listing.put_lives.Goals as goal

pub loop-item-preserved : goal.loop-item-preserved
loop-item-preserved c =
    lives_more c.args.lives.now c.loop-item.item-index _ c.args.out.now.items c.loop-item.out.items c.put_configuration.new.out.items
    c.loop-item-test.true c.loop-item.invariant c.in_ok-put_configuration.ensures
