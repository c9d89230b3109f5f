use Rattle.std.proofs.Common.{arith}
use Rattle.mb_area.proofs.Rooted.{root_spelled, still_room}
use Rattle.mb_area.proofs.root.root_bytes.Goals as goal

pub returns-clause-spelled : goal.returns-clause-spelled
returns-clause-spelled c =
    (root_spelled c.args.root.now c.clear.new.self c.write_root.new.out c.write_root.result c.requires.allowed c.clear.ensures.items c.clear.ensures.len (omega arith) c.write_root.ensures).spelled

pub returns-clause-short : goal.returns-clause-short
returns-clause-short c =
    (root_spelled c.args.root.now c.clear.new.self c.write_root.new.out c.write_root.result c.requires.allowed c.clear.ensures.items c.clear.ensures.len (omega arith) c.write_root.ensures).short

pub returns-clause-capacity : goal.returns-clause-capacity
returns-clause-capacity c =
    omega (arith, still_room c.args.root.now c.clear.new.self c.write_root.new.out c.write_root.result c.requires.allowed c.clear.ensures.len (omega arith) c.write_root.ensures)
