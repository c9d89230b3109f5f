use Rattle.mb_fleet.specs.Ends.{answer_of}
use Rattle.mb_fleet.proofs.Runs.{answer_put, end_put}
use Rattle.mb_fleet.proofs.serving.show_chain.Goals as goal

pub returns-in-Ok : goal.returns-in-Ok
returns-in-Ok c = answer_put c.args.root.now c.args.fleet.now c.args.chain.now c.args.out.now c.put_added.new.out c.add.new.self (answer_of c.in-Ok.added) c.put_added.result c.in-Ok.ensures c.put_added.ensures

pub returns-in-Err : goal.returns-in-Err
returns-in-Err c = end_put c.args.root.now c.args.fleet.now c.args.chain.now c.args.out.now c.put_end.new.out c.add.new.self c.put_end.result c.in-Err.end c.in-Err.ensures c.put_end.ensures
