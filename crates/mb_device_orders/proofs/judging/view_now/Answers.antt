use Rattle.mb_device_orders.proofs.Judgement.{view_is, in_range}
use Rattle.mb_device_orders.proofs.judging.view_now.Goals as goal

pub returns-clause-view : goal.returns-clause-view
returns-clause-view g c = λ state ready knows.
    view_is (g.B.Board.seen c.args.b.now).memory state c.args.known.now c.args.root.now c.count_stored_keys-keys_two.result c.count_stored_keys-keys_three.result ready knows c.requires.root
    (c.count_stored_keys-keys_two.ensures.count state.two ready.clean.two) (c.count_stored_keys-keys_three.ensures.count state.three ready.clean.three)

pub returns-clause-range : goal.returns-clause-range
returns-clause-range g c =
    let few = in_range c.args.known.now (g.B.Board.seen c.args.b.now).memory c.requires.remembered in
    record { uses = few.uses; number = few.number; keys_made = few.keys_made }
