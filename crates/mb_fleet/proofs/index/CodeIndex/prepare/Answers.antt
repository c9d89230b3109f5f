use Rattle.mb_fleet.specs.Indexes.{without}
use Rattle.mb_fleet.proofs.Indexing.{still_ready}
use Rattle.mb_fleet.proofs.index.CodeIndex.prepare.Goals as goal

pub returns-clause-ready : goal.returns-clause-ready
returns-clause-ready c = record {
  left = still_ready c.prepare_left.new.self c.prepare_joined.new.self (without c.args.serial.now) c.args.from.now c.in_ok-left.left c.in_ok-joined.ensures.same c.in_ok-joined.ensures.known c.in_ok-left.ensures.ready;
  joined = c.in_ok-joined.ensures.ready;
}
