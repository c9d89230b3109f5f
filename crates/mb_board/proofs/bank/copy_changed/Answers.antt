use Rattle.std.proofs.Common.{false, Bool, ℕ, Vec, Global, get_or, ap, sym, ◌∙◌, arith, length-set}
use Rattle.mb_board.proofs.Sectors.{prefix_more, prefix-copied, same-copied}
use Rattle.mb_board.proofs.bank.copy_changed.Goals as goal
use Rattle.mb_board.proofs.bank.copy_changed.Goals.{then-index, else-index}

pub loop-sector-preserved : goal.loop-sector-preserved
loop-sector-preserved c =
    let sector = c.loop-sector.sector in
    let known = c.loop-sector.invariant in
    elim c.if-index.branch [
      | then-index w ↦
          let standing = ap (λ (items : Vec ℕ Global). items.items) w.standing-is ∙ w.copy_sector.ensures in
          let changed = ap (λ (items : Vec Bool Global). items.items) w.changed-is in
          rw (standing, changed) record {
            same = same-copied _ _ _ _ known.same (omega arith);
            front = prefix-copied _ _ sector known.same.sized (omega arith) known.front;
            count = length-set _ sector false ∙ known.count;
          }
      | else-index w ↦
          let flag = ap (λ default. get_or c.loop-sector.changed.items sector default) (sym w.if-index.false) ∙ (sym c.index.ensures ∙ w.if-index.false) in
          rw (w.standing-is, w.changed-is) record {
            same = known.same;
            front = prefix_more sector _ _ known.front (known.same.same sector (omega arith) flag);
            count = known.count;
          }
    ]
