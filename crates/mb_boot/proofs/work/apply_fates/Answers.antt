use Rattle.mb_boot.proofs.Settled.{three_is_pending, both_applied, keeps, live_still, two_root_still, three_root_still}
use Rattle.mb_model_memory.proofs.HoldingLemmas.{keeps_then}
use Rattle.mb_boot.proofs.work.apply_fates.Goals as goal

pub returns-in_err-w-clause-root : goal.returns-in_err-w-clause-root
returns-in_err-w-clause-root g c =
    two_root_still (g.B.Board.seen c.args.b.now).memory.bbram (g.B.Board.seen c.apply_fate.new.b).memory.bbram c.args.root.now c.apply_fate.ensures.besides c.requires.root

pub apply_fate-requires-2-clause-pending : goal.apply_fate-requires-2-clause-pending
apply_fate-requires-2-clause-pending g c =
    let first = (g.B.Board.seen c.args.b.now).memory in
    let now = (g.B.Board.seen c.apply_fate.new.b).memory in
    three_is_pending now c.args.root.now c.fate_of_three.result c.fate_of_three.ensures
    (live_still first now c.requires.live (keeps first now c.apply_fate.ensures.meaning))
    (two_root_still first.bbram now.bbram c.args.root.now c.apply_fate.ensures.besides c.requires.root)

pub returns-in_err-w-2-clause-meaning : goal.returns-in_err-w-2-clause-meaning
returns-in_err-w-2-clause-meaning g c =
    let first = (g.B.Board.seen c.args.b.now).memory in
    let now = (g.B.Board.seen c.apply_fate.new.b).memory in
    let last = (g.B.Board.seen c.apply_fate-2.new.b).memory in
    keeps_then first now last (keeps first now c.apply_fate.ensures.meaning) (keeps now last c.apply_fate-2.ensures.meaning)

pub returns-in_err-w-2-clause-root : goal.returns-in_err-w-2-clause-root
returns-in_err-w-2-clause-root g c =
    let first = (g.B.Board.seen c.args.b.now).memory in
    let now = (g.B.Board.seen c.apply_fate.new.b).memory in
    let last = (g.B.Board.seen c.apply_fate-2.new.b).memory in
    three_root_still now.bbram last.bbram c.args.root.now c.apply_fate-2.ensures.besides (two_root_still first.bbram now.bbram c.args.root.now c.apply_fate.ensures.besides c.requires.root)

pub returns-clause-done : goal.returns-clause-done
returns-clause-done g c =
    both_applied (g.B.Board.seen c.args.b.now).memory (g.B.Board.seen c.apply_fate.new.b).memory (g.B.Board.seen c.apply_fate-2.new.b).memory c.args.root.now
    c.fate_of_two.result c.fate_of_three.result c.requires.root c.fate_of_two.ensures c.fate_of_three.ensures c.in_ok-w.ensures.done c.in_ok-w-2.ensures.done

pub returns-clause-meaning : goal.returns-clause-meaning
returns-clause-meaning g c =
    let first = (g.B.Board.seen c.args.b.now).memory in
    let now = (g.B.Board.seen c.apply_fate.new.b).memory in
    let last = (g.B.Board.seen c.apply_fate-2.new.b).memory in
    keeps_then first now last (keeps first now c.apply_fate.ensures.meaning) (keeps now last c.apply_fate-2.ensures.meaning)

pub returns-clause-root : goal.returns-clause-root
returns-clause-root g c =
    let first = (g.B.Board.seen c.args.b.now).memory in
    let now = (g.B.Board.seen c.apply_fate.new.b).memory in
    let last = (g.B.Board.seen c.apply_fate-2.new.b).memory in
    three_root_still now.bbram last.bbram c.args.root.now c.apply_fate-2.ensures.besides (two_root_still first.bbram now.bbram c.args.root.now c.apply_fate.ensures.besides c.requires.root)
