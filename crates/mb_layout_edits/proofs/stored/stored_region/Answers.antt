use Rattle.std.proofs.Common.{arith}
use Rattle.mb_format.specs.Format.{IsBytes}
use Rattle.mb_layout.proofs.Areas.{some_left}
use Rattle.mb_layout_edits.proofs.RegionParts.{empty_stands, none_left, stands_for, stands_for_none}
use Rattle.mb_layout_edits.proofs.stored.stored_region.Goals as goal

pub returns-then-is_empty : goal.returns-then-is_empty
returns-then-is_empty c = λ region h. (
    let empty = empty_stands (none_left _ c.if-is_empty.ensures) region h in
    rw empty c.no_region.ensures)

pub returns-in-Ok : goal.returns-in-Ok
returns-in-Ok c =
    let are : IsBytes c.args.bytes.now = λ i. omega (arith, c.type_inv.bytes i) in
    stands_for are (some_left _ c.if-is_empty.ensures) c.in-Ok.ensures

pub returns-in-Err : goal.returns-in-Err
returns-in-Err c =
    let are : IsBytes c.args.bytes.now = λ i. omega (arith, c.type_inv.bytes i) in
    stands_for_none are (some_left _ c.if-is_empty.ensures) c.in-Err.ensures
