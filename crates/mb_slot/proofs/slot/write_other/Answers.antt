use Rattle.std.proofs.Common.{length, arith, rules}
use Rattle.mb_slot.proofs.Slotted.{sized_still, reached_as, put_other, torn_other, on_ok, current_kept}
use Rattle.mb_slot.proofs.slot.write_other.Goals as goal

pub bbram_write-requires-clause-reached : goal.bbram_write-requires-clause-reached
bbram_write-requires-clause-reached g c = reached_as _ _ _ c.requires.area c.other_at.ensures.reached

pub returns-clause-ran : goal.returns-clause-ran
returns-clause-ran g c = record {
  ran = record {
    power = c.bbram_write.ensures.power;
    level = c.bbram_write.ensures.level;
    sized = sized_still c.other_at.result (length c.args.area.now) _ _ c.requires.can_use.loaded (omega (arith, c.other_at.ensures.within, c.requires.area)) c.bbram_write.ensures.torn c.bbram_write.ensures.flash;
    ledger = c.bbram_write.ensures.ledger;
    meter = search rules;
  };
  flash = c.bbram_write.ensures.flash;
  rest = torn_other c.args.slot c.other_at.result (length c.args.area.now) _ _ c.requires.can_use.least c.requires.can_use.most c.requires.can_use.loaded.bbram c.other_at.ensures.same c.requires.area c.bbram_write.ensures.torn;
}

pub returns-clause-current : goal.returns-clause-current
returns-clause-current g c = current_kept c.args.slot _ _ c.requires.can_use.least c.requires.can_use.most c.requires.can_use.loaded.bbram (returns-clause-ran g c).rest

pub returns-clause-done : goal.returns-clause-done
returns-clause-done g c = on_ok c.bbram_write.result
    (put_other c.args.slot c.other_at.result _ _ c.args.area.now c.requires.can_use.least c.requires.can_use.most c.requires.can_use.loaded.bbram c.requires.area c.other_at.ensures.same (returns-clause-ran g c).rest)
    c.bbram_write.ensures.stored
