use Rattle.std.proofs.Common.{◌++◌, List, ap, sym, ◌∙◌, append-nil, arith, length}
use Rattle.std.specs.Map.Iter.{deref_pair}
use Rattle.std.proofs.lemmas.Cmp.{nat_list_cmp_total}
use Rattle.std.proofs.lemmas.Map.Iter.{rest_all, btree_map_turn}
use Rattle.mb_fleet.proofs.Listings.{Entry, counts_of, counts_listed, few_here}
use Rattle.mb_fleet.proofs.index.CodeIndex.codes.Goals as goal

pub overflow_cast-count : goal.overflow_cast-count
overflow_cast-count c =
    let start = c.into_iter-hash-iterator.ensures.into_iter_gives in
    let turn = btree_map_turn deref_pair c.loop-hash.yielded c.into_iter-hash-iterator.result c.loop-hash.hash-iterator c.next.new.self c.next.result (c.in-Some.hash, c.in-Some.serials) c.loop-hash.yielded_by c.in-Some.is c.next.ensures.steps
    nat_list_cmp_total c.args.self.now.serials start.0 start.5 in
    omega (arith, few_here c.args.self.now c.in-Some.hash.now c.in-Some.serials.now c.requires turn.1, ap length c.as_slice-count.ensures)

pub returns : goal.returns
returns c =
    let start = c.into_iter-hash-iterator.ensures.into_iter_gives in
    let none = rest_all deref_pair c.loop-hash.hash-iterator c.next.new.self c.next.result c.in-None.is c.next.ensures.steps in
    counts_listed c.args.self.now c.loop-hash.counts start.5
    (sym (append-nil c.loop-hash.counts) ∙ ap (λ (es : List Entry). c.loop-hash.counts ++ counts_of es) (sym none) ∙ c.loop-hash.invariant)
