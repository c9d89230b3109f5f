use Rattle.std.proofs.Common.{not, ap, ◌∙◌, arith, rules}
use Rattle.mb_slot.proofs.Slotted.{sized_still, selector_reached, on_ok, but_selector, either_in_force, exchanged, flipped}
use Rattle.mb_slot.proofs.slot.flip.Goals as goal

pub bbram_write-requires-clause-reached : goal.bbram_write-requires-clause-reached
bbram_write-requires-clause-reached g c = selector_reached _ c.args.slot c.requires.can_use.least c.requires.can_use.most c.requires.can_use.reached

pub returns-clause-either : goal.returns-clause-either
returns-clause-either g c = either_in_force c.args.slot _ _ c.requires.can_use.least c.requires.can_use.most c.requires.can_use.loaded.bbram (flipped c.args.slot _ _ c.requires.can_use.most c.requires.can_use.loaded.bbram c.bbram_write.ensures.torn)

pub returns-clause-done : goal.returns-clause-done
returns-clause-done g c = on_ok c.bbram_write.result (exchanged c.args.slot c.selector_for-selector.result _ _ c.requires.can_use.least c.requires.can_use.most c.requires.can_use.loaded.bbram (c.selector_for-selector.ensures ∙ ap not c.is_first_in_force.ensures)) c.bbram_write.ensures.stored

pub returns-clause-ran : goal.returns-clause-ran
returns-clause-ran g c = record {
  ran = record {
    power = c.bbram_write.ensures.power;
    level = c.bbram_write.ensures.level;
    sized = sized_still c.args.slot 1 _ _ c.requires.can_use.loaded (omega (arith, c.requires.can_use.most)) c.bbram_write.ensures.torn c.bbram_write.ensures.flash;
    ledger = c.bbram_write.ensures.ledger;
    meter = search rules;
  };
  flash = c.bbram_write.ensures.flash;
  rest = but_selector c.args.slot _ _ c.requires.can_use.least c.requires.can_use.most (flipped c.args.slot _ _ c.requires.can_use.most c.requires.can_use.loaded.bbram c.bbram_write.ensures.torn);
}
