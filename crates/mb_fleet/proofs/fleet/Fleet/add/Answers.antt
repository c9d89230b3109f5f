use Rattle.mb_fleet.proofs.Rowing.{refusal_answers, row_answers}
use Rattle.mb_fleet.proofs.fleet.Fleet.add.Goals as goal

pub returns-in-Err : goal.returns-in-Err
returns-in-Err c = rw c.end_of.ensures (refusal_answers c.args.root.now c.args.self.now c.args.chain.now c.in-Err.refusal c.in-Err.ensures.refused)

pub meet-requires : goal.meet-requires
meet-requires c = c.row_of.ensures.few c.args.root.now c.args.chain.now c.in-Ok.ensures.shown

pub returns-in-Ok : goal.returns-in-Ok
returns-in-Ok c =
    row_answers c.args.root.now c.args.self.now c.args.chain.now c.row_of.result c.meet.new.self c.meet.result
    (c.row_of.ensures.row c.args.root.now c.args.chain.now c.in-Ok.ensures.shown) c.meet.ensures
