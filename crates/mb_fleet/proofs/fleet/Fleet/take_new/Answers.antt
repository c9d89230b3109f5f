use Rattle.std.proofs.Common.{arith, ap, subst, ◌∙◌, List, length}
use Rattle.std.specs.List.{insert}
use Rattle.mb_fleet.specs.declared.row.Row.{Row}
use Rattle.mb_fleet.specs.Indexes.{AreIndexesOf}
use Rattle.mb_fleet.specs.Lookups.{FitsRegister}
use Rattle.mb_fleet.proofs.Indexing.{put_new, indexes_then}
use Rattle.mb_fleet.proofs.Meeting.{meets_full, meets_new, new_fits}
use Rattle.mb_fleet.proofs.Registers.{row_count}
use Rattle.mb_fleet.proofs.fleet.Fleet.take_new.Goals as goal

pub returns-then-len : goal.returns-then-len
returns-then-len c =
    let size = row_count c.self.inside.rows in
    meets_full c.args.self.now c.args.row c.args.at c.requires.free (omega (arith, c.if-len.true, c.len.ensures, size, ap length c.self.view_is))

pub invariant_of-self : goal.invariant_of-self
invariant_of-self c = (c.self.invariant.0, c.prepare.ensures.same c.self.inside.rows.items c.self.invariant.1)

pub invariant_of-self-in_err-insert_row : goal.invariant_of-self-in_err-insert_row
invariant_of-self-in_err-insert_row c = rw c.in_err-insert_row.ensures.err (c.self.invariant.0, c.in_ok-change.ensures.same c.self.inside.rows.items c.self.invariant.1)

pub invariant_of-self-2 : goal.invariant_of-self-2
invariant_of-self-2 c =
    let rows = c.args.self.now in
    let size = row_count c.self.inside.rows in
    let inserted = c.in_ok-insert_row.ensures.ok ∙ ap (λ (rs : List Row). insert rs c.args.at c.args.row) c.self.view_is in
    let are = subst (λ (rs : List Row). AreIndexesOf rs c.self.inside.indexes) c.self.view_is c.self.invariant.1 in (
      new_fits rows c.args.row c.args.at c.requires.free c.insert_row.new.rows.items (subst FitsRegister c.self.view_is c.self.invariant.0) c.requires.few
          (omega (arith, c.if-len.false, c.len.ensures, size, ap length c.self.view_is)) inserted,
      indexes_then c.prepare.new.self c.change.new.self c.in_ok-change.change rows c.insert_row.new.rows.items c.args.row c.none.result
          (put_new rows c.args.row c.args.at c.none.result c.insert_row.new.rows.items c.requires.free inserted)
          (c.in_ok-change.ensures.same rows are) c.in_ok-change.ensures.ready c.change.ensures,
    )

pub returns : goal.returns
returns c =
    let size = row_count c.self.inside.rows in
    meets_new c.args.self.now c.args.row c.args.at c.requires.free c.insert_row.new.rows.items c.count_entries-length.result
    (omega (arith, c.if-len.false, c.len.ensures, size, ap length c.self.view_is))
    (c.in_ok-insert_row.ensures.ok ∙ ap (λ (rs : List Row). insert rs c.args.at c.args.row) c.self.view_is)
    c.count_entries-length.ensures
