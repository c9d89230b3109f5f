use Rattle.std.proofs.Common.{ap, subst, ◌∙◌, refl, sym, List, length, get_or}
use Rattle.std.specs.Prelude.{slice_set}
use Rattle.mb_fleet.specs.declared.row.Row.{Row}
use Rattle.mb_fleet.specs.Rows.{serial_of_row}
use Rattle.mb_fleet.specs.Indexes.{AreIndexesOf}
use Rattle.mb_fleet.specs.Lookups.{FitsRegister}
use Rattle.mb_fleet.proofs.Standing.{held_here_is}
use Rattle.mb_fleet.proofs.Indexing.{put_instead, indexes_then}
use Rattle.mb_fleet.proofs.Meeting.{hashes_there, meets_same, meets_older, meets_fork, meets_extended, old_fits}
use Rattle.mb_fleet.proofs.fleet.Fleet.meet_old.Goals as goal

pub invariant_of-self : goal.invariant_of-self
invariant_of-self c = (c.self.invariant.0, c.prepare.ensures.same c.self.inside.rows.items c.self.invariant.1)

pub invariant_of-self-in-Longer : goal.invariant_of-self-in-Longer
invariant_of-self-in-Longer c =
    let rows = c.args.self.now in
    let replaced = ap (λ (rs : List Row). slice_set rs c.args.at c.args.row) c.self.view_is in
    let fits = subst FitsRegister c.self.view_is c.self.invariant.0 in
    let are = subst (λ (rs : List Row). AreIndexesOf rs c.self.inside.indexes) c.self.view_is c.self.invariant.1 in
    let there = c.index-in-Longer.ensures ∙ ap (λ (rs : List Row). get_or rs c.args.at c.index-in-Longer.result.now) c.self.view_is
    ∙ held_here_is serial_of_row rows c.args.row.serial c.args.at c.requires.held c.index-in-Longer.result.now in (
      old_fits rows c.args.row c.args.at c.requires.held _ fits c.requires.few replaced,
      indexes_then c.prepare.new.self c.change.new.self c.in_ok-change-in-Longer.change rows _ c.args.row c.index-in-Longer.result.now.code
          (put_instead rows c.args.row c.args.at c.index-in-Longer.result.now.code _ c.requires.held fits.ordered (sym (ap (λ (r : Row). r.code) there)) replaced)
          (c.in_ok-change-in-Longer.ensures.same rows are) c.in_ok-change-in-Longer.ensures.ready c.change.ensures,
    )

pub returns-in-Same : goal.returns-in-Same
returns-in-Same c =
    let rows = c.args.self.now in
    let olds = hashes_there rows c.args.row c.args.at c.requires.held c.self.inside.rows.items c.index-2.result.now c.as_slice.result.now c.self.view_is c.index-2.ensures c.as_slice.ensures in
    meets_same rows c.args.row c.args.at c.requires.held c.as_slice.result.now c.as_slice-2.result.now olds c.as_slice-2.ensures c.count_entries-length.result c.in-Same.ensures c.count_entries-length.ensures

pub returns-in-Shorter : goal.returns-in-Shorter
returns-in-Shorter c =
    let rows = c.args.self.now in
    let olds = hashes_there rows c.args.row c.args.at c.requires.held c.self.inside.rows.items c.index-2.result.now c.as_slice.result.now c.self.view_is c.index-2.ensures c.as_slice.ensures in
    let had = hashes_there rows c.args.row c.args.at c.requires.held c.self.inside.rows.items c.index.result.now c.index.result.now.hashes c.self.view_is c.index.ensures refl in
    meets_older rows c.args.row c.args.at c.requires.held c.as_slice.result.now c.as_slice-2.result.now olds c.as_slice-2.ensures c.count_entries-have.result c.in-Shorter.ensures
    (c.count_entries-have.ensures ∙ ap length had)

pub returns-in-Differs : goal.returns-in-Differs
returns-in-Differs c =
    let rows = c.args.self.now in
    let olds = hashes_there rows c.args.row c.args.at c.requires.held c.self.inside.rows.items c.index-2.result.now c.as_slice.result.now c.self.view_is c.index-2.ensures c.as_slice.ensures in
    meets_fork rows c.args.row c.args.at c.requires.held c.as_slice.result.now c.as_slice-2.result.now olds c.as_slice-2.ensures c.in-Differs.place c.in-Differs.ensures

pub returns-in_ok-change-in-Longer : goal.returns-in_ok-change-in-Longer
returns-in_ok-change-in-Longer c =
    let rows = c.args.self.now in
    let olds = hashes_there rows c.args.row c.args.at c.requires.held c.self.inside.rows.items c.index-2.result.now c.as_slice.result.now c.self.view_is c.index-2.ensures c.as_slice.ensures in
    meets_extended rows c.args.row c.args.at c.requires.held c.as_slice.result.now c.as_slice-2.result.now olds c.as_slice-2.ensures _ c.count_entries-length.result c.in-Longer.ensures c.count_entries-length.ensures
    (ap (λ (rs : List Row). slice_set rs c.args.at c.args.row) c.self.view_is)
