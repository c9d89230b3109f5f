use Rattle.mb_device_orders.proofs.Remembered.{small_area}
use Rattle.mb_device_orders.proofs.Planned.{read_short, planned_takes, planned_short, planned_few, commit_is, figures_next}
use Rattle.mb_device_orders.proofs.planning.plan_commit.Goals as goal

pub read_header-requires-clause-area : goal.read_header-requires-clause-area
read_header-requires-clause-area g c = small_area (g.B.Board.seen c.args.b.now).memory.bbram c.args.judged.root c.requires.passed.root

pub put_header-requires-clause-short : goal.put_header-requires-clause-short
put_header-requires-clause-short g c = read_short (g.B.Board.seen c.args.b.now).memory.flash c.read_header.new.room.header.items _ c.read_header.ensures.read

pub put_header-requires-clause-takes : goal.put_header-requires-clause-takes
put_header-requires-clause-takes g c =
    planned_takes (g.B.Board.seen c.args.b.now).memory c.args.judged c.read_header.new.room.header.items c.as_slice-entries.result.now c.requires.passed c.as_slice-entries.ensures c.read_header.ensures.read

pub put_code-requires : goal.put_code-requires
put_code-requires g c = planned_short (g.B.Board.seen c.args.b.now).memory c.args.judged c.requires.passed

pub next_root-requires-clause-area : goal.next_root-requires-clause-area
next_root-requires-clause-area g c = small_area (g.B.Board.seen c.args.b.now).memory.bbram c.args.judged.root c.requires.passed.root

pub next_root-requires-clause-few : goal.next_root-requires-clause-few
next_root-requires-clause-few g c = planned_few (g.B.Board.seen c.args.b.now).memory c.args.judged c.requires.passed

pub returns-clause-commit : goal.returns-clause-commit
returns-clause-commit g c = λ state text draw ready passed.
    commit_is (g.B.Board.seen c.args.b.now).memory state text draw c.args.judged c.next_root.result c.read_header.new.room.header.items c.put_header.new.room.header c.put_code.new.room ready c.requires.bytes passed c.requires.passed.root c.next_root.ensures
    c.as_slice-entries.result.now c.as_slice-entries.ensures c.read_header.ensures.read c.put_header.ensures.one c.in_ok-put_header.ensures.spelled c.put_code.ensures.header c.put_code.ensures.code

pub returns-clause-figures : goal.returns-clause-figures
returns-clause-figures g c = λ state text draw ready knows passed.
    figures_next (g.B.Board.seen c.args.b.now).memory state text draw c.args.judged c.args.known.now c.figures_with.result ready knows passed
    c.as_slice-entries.result.now c.as_slice-entries.ensures c.figures_with.ensures
