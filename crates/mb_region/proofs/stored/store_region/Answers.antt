use Rattle.std.proofs.Common.{List, ℕ, refl, sym, subst, rules}
use Rattle.mb_model.specs.records.RegionFormat.{SpellsRegion}
use Rattle.mb_slot.proofs.Slotted.{on_ok}
use Rattle.mb_region.proofs.Meant.{state_replaced, state_replaced_or_kept}
use Rattle.mb_region.proofs.stored.store_region.Goals as goal

pub returns : goal.returns
returns g c =
    let before = (g.B.Board.seen c.args.b.now).memory in
    let after = (g.B.Board.seen c.replace.new.b).memory in
    let region = c.args.region.now in
    let given = c.replace.ensures in
    let spelled = subst (λ (xs : List ℕ). SpellsRegion xs region) (sym c.deref.ensures.value) c.region_bytes.ensures.spelled in
    record {
      done = given.done region spelled;
      either = given.either region spelled;
      means = λ none state means. on_ok c.replace.result (λ done. state_replaced c.args.slot c.args.slot region before after refl c.requires.slot given.ran.ran.sized none done state means) (given.done region spelled);
      means_either = λ none. state_replaced_or_kept c.args.slot c.args.slot region before after refl c.requires.slot given.ran.ran.sized none (given.either region spelled);
      left = given.left;
      besides = given.besides;
      writes = given.writes;
      ran = given.ran;
      plans = search rules;
    }
