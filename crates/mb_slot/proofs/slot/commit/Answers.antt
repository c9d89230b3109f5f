use Rattle.std.proofs.Common.{inl, rules}
use Rattle.mb_slot.proofs.Slotted.{but_other, but_then, agree_besides}
use Rattle.mb_slot.proofs.slot.commit.Goals as goal

pub returns-in_err-write_other : goal.returns-in_err-write_other
returns-in_err-write_other g c = record {
  done = search rules;
  left = search rules;
  either = inl c.write_other.ensures.current;
  besides = agree_besides c.args.slot _ _ c.requires.can_use.least c.requires.can_use.most c.requires.can_use.loaded.bbram (but_other c.args.slot _ _ c.write_other.ensures.ran.rest);
  writes = search rules;
  ran = search rules;
}

pub returns : goal.returns
returns g c = record {
  done = search rules;
  left = search rules;
  either = search rules;
  besides = agree_besides c.args.slot _ _ c.requires.can_use.least c.requires.can_use.most c.requires.can_use.loaded.bbram
      (but_then c.args.slot _ _ _ (but_other c.args.slot _ _ c.write_other.ensures.ran.rest) c.flip.ensures.ran.rest);
  writes = search rules;
  ran = search rules;
}
