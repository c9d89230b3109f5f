use Rattle.std.proofs.Common.{◌≡◌, ◌∙◌, refl, subst, arith}
use Rattle.std.proofs.lemmas.List.{take_at}
use Rattle.mb_model.specs.memories.Memory.{area_of_slot, HoldsInArea}
use Rattle.mb_slot.specs.Calls.{CommitsArea}
use Rattle.mb_slot.proofs.Slotted.{on_ok}
use Rattle.mb_area.proofs.Rooted.{only_held, root_stands, root_stands_or_not}
use Rattle.mb_area.proofs.root.store_root.Goals as goal

pub returns : goal.returns
returns g c =
    let root = c.args.root.now in
    let area = area_of_slot (g.B.Board.seen c.commit.new.b).memory.bbram 1 in
    let bytes = c.root_bytes.new.out.items in
    let filled = c.fill_area.new.area in
    let is : c.deref-2.result.now ≡ filled = c.deref-2.ensures.value ∙ take_at filled _ _ (omega (arith, c.deref_mut.ensures.len, c.make_area.ensures.len)) in
    let holds = subst (HoldsInArea filled) c.deref.ensures.value c.fill_area.ensures in
    let committed = subst (λ xs. CommitsArea 1 xs c.commit.result (g.B.Board.seen c.args.b.now) (g.B.Board.seen c.commit.new.b)) is c.commit.ensures in
    record {
      done = on_ok c.commit.result (λ same. root_stands area filled bytes root same holds c.root_bytes.ensures.spelled) committed.done;
      only = on_ok c.commit.result (λ same. only_held area filled bytes root same holds c.root_bytes.ensures.bytes c.root_bytes.ensures.spelled) committed.done;
      either = root_stands_or_not area (area_of_slot (g.B.Board.seen c.args.b.now).memory.bbram 1) filled bytes root committed.either holds c.root_bytes.ensures.spelled;
      left = committed.left;
      besides = committed.besides;
      ran = committed.ran;
      plans = record { code = refl; code_layer = refl; header = refl; log = refl };
    }
